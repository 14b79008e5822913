-- What a book that the scan finds sound is: later crates use these laws, and not the scan's text. Assumes nothing.
use Rattle.std.specs.Prelude.{Ok}
use mathlib.Core.Path.{◌≡◌, refl, ◌∙◌}
use mathlib.Core.Logic.{◌⊎◌, inl, inr, ⊎_elim}
use mathlib.Core.Bool.{true}
use mathlib.Core.List.{List}
use Prim.Native.Nat.{ℕ, ◌+◌, ◌-◌, ◌*◌, ◌≤◌, ◌<◌}
use native.Mathlib.Decide.{ℕ_discrete}
use native.Mathlib.Omega.{arith}
use borrow.Author.Tests.{leb-true, leb-false, ltb-true, eqb-true, not-false}
use lib.ListN.{length}
use Rattle.paper.specs.declared.Shape.{Shape}
use Rattle.paper.specs.Records.{whole_records, kind_at, class_at, instrument_at, position_at, root, count, shape_of, class_of, instrument_of, position_of}
use Rattle.paper.specs.Refusals.{points_fit, share_fits, class_fits, instrument_fits, position_fits, reference_fault, range_fault, points_fault, verdict_of}
use Rattle.paper.specs.Listing.{most_records}
use Rattle.ranges.proofs.Choices.{both, either}
use Rattle.ranges.proofs.Bounds.{GoodPoints, good_points, ByProduct, by_product_lem, GoodPosition, good_position}
use Rattle.book.proofs.Layouts.{layout, before_class, all_classes, before_instrument, all_instruments, before_position}
use Rattle.book.proofs.Verdicts.{stands, AllClean, Passed, passed, all_sound, whole_length}

pub record SoundClass (b : List ℕ) (s : Shape) (k : ℕ) : Type 0 where
  pub kind : kind_at b k ≡ 1
  pub parent : ((class_of b k).parent ≡ root) ⊎ ((class_of b k).parent < k)
  pub share : (class_of b k).share ≤ 10000
  pub points : (class_of b k).points ≡ s.points

pub record SoundInstrument (b : List ℕ) (s : Shape) (i : ℕ) : Type 0 where
  pub kind : kind_at b (s.classes + i) ≡ 2
  pub class : (instrument_of b s i).class < s.classes
  pub fits : instrument_fits (instrument_of b s i) ≡ true
  pub product : ByProduct (instrument_of b s i)

pub record SoundPosition (b : List ℕ) (s : Shape) (p : ℕ) : Type 0 where
  pub kind : kind_at b (s.classes + s.instruments + p) ≡ 3
  pub instrument : (position_of b s p).instrument < s.instruments
  pub good : GoodPosition (position_of b s p) (instrument_of b s (position_of b s p).instrument).product

pub record SoundBook (b : List ℕ) (s : Shape) : Type 0 where
  pub shape : s ≡ shape_of b (whole_records b)
  pub records : whole_records b ≡ s.classes + s.instruments + s.positions
  pub bytes : length b ≡ 32 * (s.classes + s.instruments + s.positions)
  pub classes : s.classes ≤ 24
  pub instruments : s.instruments ≤ 64
  pub positions : s.positions ≤ 256
  pub points : 0 < s.classes → GoodPoints s.points
  pub no_class : s.classes ≡ 0 → (s.instruments ≡ 0) × (s.positions ≡ 0)
  pub class : (k : ℕ) → k < s.classes → SoundClass b s k
  pub instrument : (i : ℕ) → i < s.instruments → SoundInstrument b s i
  pub position : (p : ℕ) → p < s.positions → SoundPosition b s p

-- ---- what the tests of one record say of it, by its kind

module _ (b : List ℕ) (r : ℕ) (s : Shape) (t : Passed b r s) where
  class_limit : kind_at b r ≡ 1 → s.classes < 24
  class_limit k = leb-false _ _ (rw k at t.limit)

  instrument_limit : kind_at b r ≡ 2 → s.instruments < 64
  instrument_limit k = leb-false _ _ (rw k at t.limit)

  position_limit : kind_at b r ≡ 3 → s.positions < 256
  position_limit k = leb-false _ _ (rw k at t.limit)

  class_refers_lem : kind_at b r ≡ 1 → ((class_at b r).parent ≡ root) ⊎ ((class_at b r).parent < s.classes)
  unfolding reference_fault
  class_refers_lem k = ⊎_elim (λ e. inl (eqb-true _ _ e)) (λ e. inr (ltb-true _ _ e)) (either _ _ (not-false _ (rw k at t.reference)))

  instrument_refers_lem : kind_at b r ≡ 2 → (instrument_at b r).class < s.classes
  unfolding reference_fault
  instrument_refers_lem k = ltb-true _ _ (not-false _ (rw k at t.reference))

  position_refers : kind_at b r ≡ 3 → (position_at b r).instrument < s.instruments
  position_refers k = stands b r s k t.reference

  class_range : kind_at b r ≡ 1 → class_fits (class_at b r) ≡ true
  unfolding range_fault
  class_range k = not-false _ (rw k at t.range)

  instrument_range : kind_at b r ≡ 2 → instrument_fits (instrument_at b r) ≡ true
  unfolding range_fault
  instrument_range k = not-false _ (rw k at t.range)

  position_range : kind_at b r ≡ 3 → position_fits (position_at b r) (instrument_of b s (position_at b r).instrument).product ≡ true
  unfolding range_fault
  position_range k = not-false _ (rw k at t.range)

  class_points : kind_at b r ≡ 1 → (class_at b r).points ≡ s.points
  unfolding points_fault
  class_points k = eqb-true _ _ (not-false _ (rw k at t.points))

-- ---- n clean records

module _ (b : List ℕ) (n : ℕ) (clean : AllClean b 0 n) where
  -- the shape of the whole, and of what stands before record r
  abbrev whole : Shape
  whole = shape_of b n

  tests_of : (r : ℕ) → r < n → Passed b r (shape_of b r)
  tests_of r h = passed b r (clean r (omega arith) h)

  total : whole.classes + whole.instruments + whole.positions ≡ n
  unfolding shape_of
  total = (layout b n clean).total

  class_kind : (k : ℕ) → k < whole.classes → kind_at b k ≡ 1
  unfolding shape_of
  class_kind = (layout b n clean).classes

  instrument_kind : (i : ℕ) → i < whole.instruments → kind_at b (whole.classes + i) ≡ 2
  unfolding shape_of
  instrument_kind i h = (layout b n clean).instruments _ (omega arith) (omega arith)

  position_kind : (p : ℕ) → p < whole.positions → kind_at b (whole.classes + whole.instruments + p) ≡ 3
  unfolding shape_of
  position_kind p h = (layout b n clean).positions _ (omega arith) (omega (arith, (layout b n clean).total))

  -- before class k, k classes
  at_class : (k : ℕ) → k < whole.classes → (shape_of b k).classes ≡ k
  unfolding shape_of
  at_class = before_class b n clean

  at_instrument : (i : ℕ) → i < whole.instruments → ((shape_of b (whole.classes + i)).classes ≡ whole.classes) × ((shape_of b (whole.classes + i)).instruments ≡ i)
  unfolding shape_of
  at_instrument i h =
      let t = (layout b n clean).total in
      (all_classes b n clean _ (omega arith) (omega arith), omega (arith, before_instrument b n clean (count b 1 n + i) (omega arith) (omega arith)))

  at_position : (p : ℕ) → p < whole.positions → ((shape_of b (whole.classes + whole.instruments + p)).classes ≡ whole.classes) × ((shape_of b (whole.classes + whole.instruments + p)).instruments ≡ whole.instruments) × ((shape_of b (whole.classes + whole.instruments + p)).positions ≡ p)
  unfolding shape_of
  at_position p h =
      let t = (layout b n clean).total in (
        all_classes b n clean _ (omega arith) (omega arith),
        all_instruments b n clean _ (omega arith) (omega arith),
        omega (arith, before_position b n clean (count b 1 n + count b 2 n + p) (omega arith) (omega arith)),
      )

  same_points : (r : ℕ) → (shape_of b r).points ≡ whole.points
  unfolding shape_of
  same_points r = refl

  sound_class : (k : ℕ) → k < whole.classes → SoundClass b whole k
  sound_class k h =
      let t = tests_of k (omega (arith, total)) in
      let e = class_kind k h in
      let q = both (points_fit (class_at b k).points) (share_fits (class_at b k).share) (class_range b k _ t e) in
      record {
        kind = e;
        parent = rw (at_class k h) at (class_refers_lem b k _ t e);
        share = leb-true _ _ q.1;
        points = class_points b k _ t e ∙ same_points k;
      }

  sound_instrument : (i : ℕ) → i < whole.instruments → SoundInstrument b whole i
  sound_instrument i h =
      let r = whole.classes + i in
      let t = tests_of r (omega (arith, total)) in
      let e = instrument_kind i h in
      let f = instrument_range b r _ t e in
      record { kind = e; class = rw (at_instrument i h).0 at (instrument_refers_lem b r _ t e); fits = f; product = by_product_lem _ f }

  sound_position : (p : ℕ) → p < whole.positions → SoundPosition b whole p
  sound_position p h =
      let r = whole.classes + whole.instruments + p in
      let t = tests_of r (omega (arith, total)) in
      let e = position_kind p h in
      record {
        kind = e;
        instrument = rw (at_position p h).1 at (position_refers b r _ t e);
        good = good_position _ _ (rw (at_position p h).0 at (position_range b r _ t e));
      }

  -- the last of each kind was within its limit
  few_classes : whole.classes ≤ 24
  few_classes = elim (ℕ_discrete whole.classes 0) [
    | yes z ↦ omega arith
    | no z ↦ let k = whole.classes - 1 in
        let l = class_limit b k _ (tests_of k (omega (arith, total))) (class_kind k (omega arith)) in
        omega (arith, l, at_class k (omega arith))
  ]

  few_instruments : whole.instruments ≤ 64
  few_instruments = elim (ℕ_discrete whole.instruments 0) [
    | yes z ↦ omega arith
    | no z ↦ let i = whole.instruments - 1 in
        let l = instrument_limit b (whole.classes + i) _ (tests_of (whole.classes + i) (omega (arith, total))) (instrument_kind i (omega arith)) in
        omega (arith, l, (at_instrument i (omega arith)).1)
  ]

  few_positions : whole.positions ≤ 256
  few_positions = elim (ℕ_discrete whole.positions 0) [
    | yes z ↦ omega arith
    | no z ↦ let p = whole.positions - 1 in
        let r = whole.classes + whole.instruments + p in
        let l = position_limit b r _ (tests_of r (omega (arith, total))) (position_kind p (omega arith)) in
        omega (arith, l, (at_position p (omega arith)).2)
  ]

  first_points : 0 < whole.classes → GoodPoints whole.points
  first_points h =
      let t = tests_of 0 (omega (arith, total)) in
      let e = class_kind 0 h in
      let q = both (points_fit (class_at b 0).points) (share_fits (class_at b 0).share) (class_range b 0 _ t e) in
      rw (class_points b 0 _ t e ∙ same_points 0) at (good_points (class_at b 0).points q.0)

  none : whole.classes ≡ 0 → (whole.instruments ≡ 0) × (whole.positions ≡ 0)
  none h =
      let i : whole.instruments ≡ 0 = elim (ℕ_discrete whole.instruments 0) [
        | yes z ↦ z
        | no z ↦ absurd (omega (arith, (sound_instrument 0 (omega arith)).class))
      ] in (
        i,
        elim (ℕ_discrete whole.positions 0) [
          | yes z ↦ z
          | no z ↦ absurd (omega (arith, (sound_position 0 (omega arith)).instrument))
        ],
      )

pub sound_book : (b : List ℕ) (s : Shape) → verdict_of b ≡ Ok s → SoundBook b s
sound_book b s h =
    let a = all_sound b s h in
    let n = whole_records b in
    let t = total b n a.clean in
    rw a.shape (record {
      shape = refl;
      records = omega arith;
      bytes = omega (arith, whole_length b a.whole);
      classes = few_classes b n a.clean;
      instruments = few_instruments b n a.clean;
      positions = few_positions b n a.clean;
      points = first_points b n a.clean;
      no_class = none b n a.clean;
      class = sound_class b n a.clean;
      instrument = sound_instrument b n a.clean;
      position = sound_position b n a.clean;
    })

-- its records lie within it
pub records_within : (b : List ℕ) (s : Shape) → verdict_of b ≡ Ok s → 32 * (s.classes + s.instruments + s.positions) ≤ length b
records_within b s h = let k = sound_book b s h in omega arith

-- "a book longer than 344 is always refused"
pub never_longer : (b : List ℕ) (s : Shape) → most_records < whole_records b → verdict_of b ≡ Ok s → ⊥
never_longer b s long h =
    let k = sound_book b s h in
    omega (arith, k.records, k.classes, k.instruments, k.positions)
