-- Codes 9 and 10 are given exactly when the paper says, and an empty book is accepted with zeros. Assumes nothing.
use Rattle.std.specs.Prelude.{Ok, Err}
use Rattle.paper.specs.Refusals.{Verdict, refused}
use mathlib.Core.Path.{◌≡◌, refl, sym, ap, ap₂, ◌∙◌}
use mathlib.Core.List.{List, []}
use Prim.Native.Nat.{ℕ, ◌+◌, ◌*◌, ◌≤◌, ◌<◌}
use native.Mathlib.Decide.{dec_lt}
use native.Mathlib.Omega.{arith}
use borrow.Author.Tests.{lt-ltb, le-ltb}
use lib.IntN.{ℤ}
use lib.ListN.{length}
use Rattle.paper.specs.declared.Shape.{Shape}
use Rattle.paper.specs.declared.Totals.{Totals}
use Rattle.paper.specs.declared.Fault.{Fault}
use Rattle.paper.specs.declared.Fault.TheVariants.{Length, Rows, Choice}
use Rattle.paper.specs.Sums.{sum, listed}
use Rattle.paper.specs.Records.{whole_records, le16, class_at, shape_of, count}
use Rattle.paper.specs.Refusals.{verdict_from, verdict_of, verdict_on, with_room}
use Rattle.paper.specs.Products.{mark_total, naked_total}
use Rattle.paper.specs.Trees.{cross_of}
use Rattle.paper.specs.Answers.{code_of, no_totals, code_given, place_given, rows_for, choice_for, rows_after, choice_after}
use Rattle.book.proofs.Verdicts.{refused_out, record_fault, same_refused}
use Rattle.margin.specs.Run.{Ran}
use Rattle.margin.proofs.Answers.{same_fault}
use Rattle.margin.proofs.Promises.{no_refusal}

-- code 9: the book is sound, and the rows buffer is shorter than classes times points
pub record ShortRows (b : List ℕ) (rows place : ℕ) : Type 0 where
  pub shape : Shape
  pub sound : verdict_of b ≡ Ok shape
  pub short : rows < shape.classes * shape.points
  pub place_is : place ≡ whole_records b

-- code 10: the book is sound and its rows fit, and the choice buffer is shorter than classes plus instruments
pub record ShortChoice (b : List ℕ) (rows choice place : ℕ) : Type 0 where
  pub shape : Shape
  pub sound : verdict_of b ≡ Ok shape
  pub fits : shape.classes * shape.points ≤ rows
  pub short : choice < shape.classes + shape.instruments
  pub place_is : place ≡ whole_records b

-- the numbers that a verdict gives
abbrev Gives : Verdict → ℕ → ℕ → Type 0
Gives v code place = (code_given v ≡ code) × (place_given v ≡ place)

pub rows_in_lem : (b : List ℕ) (rows choice place : ℕ) → ShortRows b rows place → Gives (verdict_on b rows choice) 9 place
unfolding verdict_on
rows_in_lem b rows choice place h =
    rw (h.sound, lt-ltb rows (h.shape.classes * h.shape.points) h.short) (refl, sym h.place_is)

pub choice_in : (b : List ℕ) (rows choice place : ℕ) → ShortChoice b rows choice place → Gives (verdict_on b rows choice) 10 place
unfolding verdict_on
choice_in b rows choice place h =
    let s = h.shape in
    rw (h.sound, le-ltb rows (s.classes * s.points) h.fits, lt-ltb choice (s.classes + s.instruments) h.short) (refl, sym h.place_is)

-- a fault of the book itself is not of the buffers
own : (b : List ℕ) (f : Fault) (place : ℕ) → verdict_of b ≡ refused f place → code_of f ≤ 8
own b f place e = elim (dec_lt 8 (code_of f)) [
  | yes h ↦ absurd (omega (arith, (record_fault b place (refused_out b f place (λ k. by k h) e).faulty).1))
  | no h ↦ omega arith
]
  where
    by : f ≡ Length → 8 < code_of f → ⊥
    by k h = omega (arith, rw k at h)

module _ (b : List ℕ) (rows choice place : ℕ) where
  -- of the verdict on the book, and what the lengths make of it
  rows_of : (v : Verdict) → verdict_of b ≡ v → with_room v (whole_records b) rows choice ≡ refused Rows place → ShortRows b rows place
  rows_of (Err r) e k =
      let g : r.fault ≡ Rows = (same_refused Rows r.fault r.place place k).0 in
      absurd (omega (arith, rw g at (own b r.fault r.place e)))
  rows_of (Ok s) e k = elim (dec_lt rows (s.classes * s.points)) [
    | yes h ↦
        let q : refused Rows (whole_records b) ≡ refused Rows place = rw (lt-ltb rows (s.classes * s.points) h) at k in
        let w : whole_records b ≡ place = (same_refused Rows Rows (whole_records b) place q).1 in
        record { shape = s; sound = e; short = h; place_is = sym w }
    | no h ↦ elim (dec_lt choice (s.classes + s.instruments)) [
      | yes l ↦
          let q : refused Choice (whole_records b) ≡ refused Rows place = rw (le-ltb rows (s.classes * s.points) (omega arith), lt-ltb choice (s.classes + s.instruments) l) at k in
          absurd (let z : ◌≡◌ {A = Fault} Choice Rows = (same_refused Rows Choice (whole_records b) place q).0 in let y : ◌≡◌ {A = ℕ} 10 9 = ap code_of z in omega arith)
      | no l ↦ absurd (no_refusal (sym (rw (le-ltb rows (s.classes * s.points) (omega arith), le-ltb choice (s.classes + s.instruments) (omega arith)) at k)))
    ]
  ]

  choice_of : (v : Verdict) → verdict_of b ≡ v → with_room v (whole_records b) rows choice ≡ refused Choice place → ShortChoice b rows choice place
  choice_of (Err r) e k =
      let g : r.fault ≡ Choice = (same_refused Choice r.fault r.place place k).0 in
      absurd (omega (arith, rw g at (own b r.fault r.place e)))
  choice_of (Ok s) e k = elim (dec_lt rows (s.classes * s.points)) [
    | yes h ↦
        let q : refused Rows (whole_records b) ≡ refused Choice place = rw (lt-ltb rows (s.classes * s.points) h) at k in
        absurd (let z : ◌≡◌ {A = Fault} Rows Choice = (same_refused Choice Rows (whole_records b) place q).0 in let y : ◌≡◌ {A = ℕ} 9 10 = ap code_of z in omega arith)
    | no h ↦ elim (dec_lt choice (s.classes + s.instruments)) [
      | yes l ↦
          let q : refused Choice (whole_records b) ≡ refused Choice place = rw (le-ltb rows (s.classes * s.points) (omega arith), lt-ltb choice (s.classes + s.instruments) l) at k in
          let w : whole_records b ≡ place = (same_refused Choice Choice (whole_records b) place q).1 in
          record { shape = s; sound = e; fits = omega arith; short = l; place_is = sym w }
      | no l ↦ absurd (no_refusal (sym (rw (le-ltb rows (s.classes * s.points) (omega arith), le-ltb choice (s.classes + s.instruments) (omega arith)) at k)))
    ]
  ]

  -- a refusal with that code is that of the buffer
  refused_as : (g : Fault) (v : Verdict) → Gives v (code_of g) place → 0 < code_of g → v ≡ refused g place
  refused_as g (Ok s) h l = absurd (omega (arith, h.0))
  refused_as g (Err r) h l = ap₂ refused (same_fault r.fault g h.0) h.1

  pub rows_out : Gives (verdict_on b rows choice) 9 place → ShortRows b rows place
  unfolding verdict_on
  rows_out h = rows_of (verdict_of b) refl (refused_as Rows _ h (omega arith))

  pub choice_out : Gives (verdict_on b rows choice) 10 place → ShortChoice b rows choice place
  unfolding verdict_on
  choice_out h = choice_of (verdict_of b) refl (refused_as Choice _ h (omega arith))

-- a book of no records: no class, no instrument, no position
abbrev nothing : Shape
nothing = record { classes = 0; instruments = 0; positions = 0; points = 0 }

empty_sound : (rows choice : ℕ) → verdict_on [] rows choice ≡ Ok nothing
unfolding verdict_on verdict_of verdict_from shape_of count class_at le16
empty_sound rows choice = rw (le-ltb rows 0 (omega arith), le-ltb choice 0 (omega arith))

-- "An empty book is accepted with zeros": every run of it, whatever the buffers, and these are left as they are
pub record AcceptedWithZeros (rows : List ℤ) (choice : List ℕ) (code place : ℕ) (totals : Totals) (rows' : List ℤ) (choice' : List ℕ) : Type 0 where
  pub code_is : code ≡ 0
  pub place_is : place ≡ 0
  pub totals_are : totals ≡ no_totals
  pub rows_hold : rows' ≡ rows
  pub choice_holds : choice' ≡ choice

pub empty_book : (rows : List ℤ) (choice : List ℕ) (code place : ℕ) (totals : Totals) (rows' : List ℤ) (choice' : List ℕ) →
    Ran [] rows choice code place totals rows' choice' → AcceptedWithZeros rows choice code place totals rows' choice'
unfolding mark_total naked_total cross_of sum listed rows_for choice_for rows_after choice_after
empty_book rows choice code place totals rows' choice' ran = record {
  code_is = ran.code_is ∙ rw (empty_sound (length rows) (length choice));
  place_is = ran.place_is ∙ rw (empty_sound (length rows) (length choice));
  totals_are = ran.totals_are ∙ rw (empty_sound (length rows) (length choice));
  rows_hold = ran.rows_hold ∙ rw (empty_sound (length rows) (length choice));
  choice_holds = ran.choice_holds ∙ rw (empty_sound (length rows) (length choice));
}
