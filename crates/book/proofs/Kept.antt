-- The verdict on a long book is that on its first records: what the tests of a record read stands before it or in it.
-- Assumes nothing.
use Rattle.std.specs.Prelude.{Ok, Err}
use Rattle.paper.specs.Refusals.{Finding, Verdict, refused}
use mathlib.Core.Path.{◌≡◌, refl, ◌∙◌, ap, sym}
use mathlib.Core.Bool.{Bool, true, false, cond}
use mathlib.Core.List.{List}
use Prim.Native.Nat.{ℕ, zero, suc, ◌+◌, ◌*◌, ◌≤◌, ◌<◌}
use native.Mathlib.Decide.{ℕ_discrete}
use native.Mathlib.Omega.{arith}
use borrow.Author.Tests.{ne_eqb}
use lib.ListN.{length, take}
use lib.Seq.{length-take-le, get_or-take}
use Rattle.paper.specs.declared.Shape.{Shape}
use Rattle.paper.specs.declared.Fault.{Fault}
use Rattle.paper.specs.declared.Fault.TheVariants.{Length, Letter, Order, Limit, Reserved, Reference}
use Rattle.paper.specs.Records.{record_bytes, whole_records, byte, le16, le32, kind_at, class_at, instrument_at, position_at, count, shape_of}
use Rattle.paper.specs.Refusals.{length_fault, letter_fault, order_fault, limit_fault, reserved_fault, kind_before, zeros, reserved_zero, reference_fault, range_fault, points_fault, tests, first_given, finding_at, verdict_of}
use Rattle.paper.specs.Listing.{kept_records}
use Rattle.book.proofs.Counts.{shape_le}
use Rattle.book.proofs.Verdicts.{stands, FirstFault, refused_out, refused_in, length_out, whole_length}
use Rattle.book.proofs.Sound.{never_longer}

-- two books whose first m records are the same
module _ (b c : List ℕ) (m : ℕ) (same : (r o : ℕ) → r < m → o < 32 → byte b r o ≡ byte c r o) where
  le16_same : (r o : ℕ) → r < m → o + 1 < 32 → le16 b r o ≡ le16 c r o
  unfolding le16
  le16_same r o h k = rw (same r o h (omega arith), same r (o + 1) h k)

  le32_same : (r o : ℕ) → r < m → o + 3 < 32 → le32 b r o ≡ le32 c r o
  unfolding le32
  le32_same r o h k = rw (le16_same r o h (omega arith), le16_same r (o + 2) h (omega arith))

  kind_same : (r : ℕ) → r < m → kind_at b r ≡ kind_at c r
  kind_same r h = rw (same r 0 h (omega arith))

  class_same : (r : ℕ) → r < m → class_at b r ≡ class_at c r
  unfolding class_at
  class_same r h = rw (le16_same r 2 h (omega arith), le16_same r 4 h (omega arith), le16_same r 6 h (omega arith))

  instrument_same : (r : ℕ) → r < m → instrument_at b r ≡ instrument_at c r
  unfolding instrument_at
  instrument_same r h =
      rw (
        same r 1 h (omega arith),
        le16_same r 2 h (omega arith),
        le16_same r 4 h (omega arith),
        le32_same r 8 h (omega arith),
        le32_same r 12 h (omega arith),
        le32_same r 16 h (omega arith),
        le32_same r 20 h (omega arith),
      )

  position_same : (r : ℕ) → r < m → position_at b r ≡ position_at c r
  unfolding position_at
  position_same r h =
      rw (
        same r 1 h (omega arith),
        le16_same r 2 h (omega arith),
        le32_same r 4 h (omega arith),
        le32_same r 8 h (omega arith),
        same r 12 h (omega arith),
      )

  count_same : (kind r : ℕ) → r ≤ m → count b kind r ≡ count c kind r
  unfolding count
  count_same kind zero h = refl
  count_same kind (suc r) h = rw (count_same kind r (omega arith), kind_same r (omega arith))

  shape_same : (r : ℕ) → r < m → shape_of b r ≡ shape_of c r
  unfolding shape_of
  shape_same r h =
      let l : r ≤ m = omega arith in
      rw (count_same 1 r l, count_same 2 r l, count_same 3 r l, class_same 0 (omega arith))

  before_same : (r : ℕ) → r < m → kind_before b r ≡ kind_before c r
  unfolding kind_before
  before_same zero h = refl
  before_same (suc r) h = kind_same r (omega arith)

  zeros_same : (r o n : ℕ) → r < m → o + n ≤ 32 → zeros b r o n ≡ zeros c r o n
  unfolding zeros
  zeros_same r o zero h k = refl
  zeros_same r o (suc n) h k = rw (same r o h (omega arith), zeros_same r (o + 1) n h (omega arith))

  reserved_same : (r : ℕ) → r < m → reserved_zero b r ≡ reserved_zero c r
  unfolding reserved_zero
  reserved_same r h =
      rw (
        kind_same r h,
        zeros_same r 1 1 h (omega arith),
        zeros_same r 8 24 h (omega arith),
        zeros_same r 6 2 h (omega arith),
        zeros_same r 24 8 h (omega arith),
        zeros_same r 13 19 h (omega arith),
      )

  reference_same : (r : ℕ) (s : Shape) → r < m → reference_fault b r s ≡ reference_fault c r s
  unfolding reference_fault
  reference_same r s h = rw (kind_same r h, class_same r h, instrument_same r h, position_same r h)

  points_same : (r : ℕ) (s : Shape) → r < m → points_fault b r s ≡ points_fault c r s
  unfolding points_fault
  points_same r s h = rw (kind_same r h, class_same r h)

  -- an instrument that is named is read only where it stands before
  range_same : (r : ℕ) (s : Shape) → r < m → s.classes + s.instruments ≤ r → reference_fault c r s ≡ false → range_fault b r s ≡ range_fault c r s
  unfolding range_fault
  range_same r s h k t = elim (ℕ_discrete (kind_at c r) 3) [
    | yes e ↦ rw (kind_same r h, class_same r h, instrument_same r h, position_same r h, instrument_same (s.classes + (position_at c r).instrument) (omega (arith, stands c r s e t)))
    | no e ↦ rw (kind_same r h, class_same r h, instrument_same r h, ne_eqb (kind_at c r) 3 e)
  ]

  finding_same : (r : ℕ) → r < m → finding_at b r ≡ finding_at c r
  unfolding finding_at tests first_given
  finding_same r h =
      let s = shape_of c r in
      rw (shape_same r h, kind_same r h, before_same r h, reserved_same r h, reference_same r s h, points_same r s h)
      (ap
      (λ (later : Finding). cond (letter_fault c r) (Err Letter) (cond (order_fault c r) (Err Order) (cond (limit_fault c r s) (Err Limit) (cond (reserved_fault c r) (Err Reserved) later))))
      (past (reference_fault c r s) (λ t. rw (range_same r s h (omega (arith, shape_le c r)) t))))
    where
      past : (given : Bool) {x y : Finding} → (given ≡ false → x ≡ y) → cond given (Err Reference) x ≡ cond given (Err Reference) y
      past true f = refl
      past false f = f refl

-- "keeping the first 345 records"
abbrev pub front : List ℕ → List ℕ
front b = take (record_bytes * kept_records) b

front_same : (b : List ℕ) (r o : ℕ) → r < kept_records → o < 32 → byte b r o ≡ byte (front b) r o
front_same b r o h k = sym (get_or-take (record_bytes * kept_records) b (record_bytes * r + o) 0 (omega arith))

-- the verdict on a book of whole records that has more is theirs
pub kept : (b : List ℕ) → length_fault b ≡ false → kept_records ≤ whole_records b → verdict_of b ≡ verdict_of (front b)
kept b whole long = by (verdict_of (front b)) refl
  where
    f_length : length (front b) ≡ record_bytes * kept_records
    f_length = length-take-le (record_bytes * kept_records) b (omega (arith, whole_length b whole))

    f_whole : length_fault (front b) ≡ false
    f_whole = rw f_length

    f_records : whole_records (front b) ≡ kept_records
    f_records = rw f_length

    found : (r : ℕ) → r < kept_records → finding_at b r ≡ finding_at (front b) r
    found = finding_same b (front b) kept_records (front_same b)

    first : (g : Fault) (r : ℕ) → FirstFault (front b) g r → verdict_of b ≡ refused g r
    first g r h =
        let w : r < kept_records = omega (arith, f_records, h.within) in
        refused_in b g r (record {
          whole = whole;
          within = omega arith;
          clean = λ k lo hi. found k (omega arith) ∙ h.clean k lo hi;
          faulty = found r w ∙ h.faulty;
        })

    by : (v : Verdict) → verdict_of (front b) ≡ v → verdict_of b ≡ verdict_of (front b)
    by (Ok s) e = absurd (never_longer (front b) s (omega (arith, f_records)) e)
    by (Err q) e = first q.fault q.place (refused_out (front b) q.fault q.place (λ k. absurd (not_length (e ∙ ap (λ (x : Fault). refused x q.place) k))) e) ∙ sym e
      where
        not_length : verdict_of (front b) ≡ refused Length q.place → ⊥
        not_length h = let t = (length_out (front b) q.place h).0 in let z : ◌≡◌ {A = Bool} true false = sym t ∙ f_whole in let y : ◌≡◌ {A = ℕ} 0 1 = cc in omega arith
