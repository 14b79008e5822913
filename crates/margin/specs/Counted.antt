-- A book of which the first records were kept and the bytes counted: its verdict and its run are those of the whole book.
use Rattle.std.specs.Prelude.{◌≡◌, Bool, ◌&&◌, List, ℕ, ◌/◌, ◌%◌, min, eqb, ℤ, length, take}
use Rattle.paper.specs.declared.Refusal.{Refusal}
use Rattle.paper.specs.declared.Totals.{Totals}
use Rattle.paper.specs.declared.Fault.TheVariants.{Length}
use Rattle.paper.specs.Records.{record_bytes}
use Rattle.paper.specs.Refusals.{Verdict, refused, verdict_of}
use Rattle.paper.specs.Answers.{code_of, no_totals}
use Rattle.paper.specs.Listing.{kept_bytes}
use Rattle.margin.specs.Run.{Ran}

-- "keeping the first 345 records and counting the rest": these bytes and this number are of the book b
pub record KeptOf (b kept : List ℕ) (size : ℕ) : Type 0 where
  pub first : kept ≡ take kept_bytes b
  pub counted : size ≡ length b

-- there is no such book
abbrev pub OfNoBook : List ℕ → ℕ → Type 0
OfNoBook kept size = (b : List ℕ) → KeptOf b kept size → ⊥

-- whether so many bytes kept, of so many, are those of a book of whole records
abbrev pub whole_kept : ℕ → ℕ → Bool
whole_kept kept size = eqb kept (min kept_bytes size) && eqb (size % record_bytes) 0

-- and the refusal where they are not: a faulty length, with the whole records counted as place
abbrev pub torn : ℕ → Refusal
torn size = record { fault = Length; place = size / record_bytes }

-- what holds of every book that was so kept and counted, and what holds where there is none
pub record Counted (kept : List ℕ) (size : ℕ) (P : List ℕ → Type 0) (none : Type 0) : Type 0 where
  pub of_book : (b : List ℕ) → KeptOf b kept size → P b
  pub of_none : OfNoBook kept size → none

-- the verdict is the book's; what is of no book is refused as a faulty length
abbrev pub CountedVerdict : List ℕ → ℕ → Verdict → Type 0
CountedVerdict kept size v = Counted kept size (λ b. v ≡ verdict_of b) (v ≡ refused Length (size / record_bytes))

-- what is of no book has no figures: code 1, the whole records counted as place, zero totals, neither buffer altered
pub record NoFigures (size : ℕ) (rows : List ℤ) (choice : List ℕ) (code place : ℕ) (totals : Totals) (rows' : List ℤ) (choice' : List ℕ) : Type 0 where
  pub code_is : code ≡ code_of Length
  pub place_is : place ≡ size / record_bytes
  pub totals_are : totals ≡ no_totals
  pub rows_hold : rows' ≡ rows
  pub choice_holds : choice' ≡ choice

-- the run has the three promises of the book
abbrev pub CountedRan : List ℕ → ℕ → List ℤ → List ℕ → ℕ → ℕ → Totals → List ℤ → List ℕ → Type 0
CountedRan kept size rows choice code place totals rows' choice' =
    Counted kept size
    (λ b. Ran b rows choice code place totals rows' choice')
    (NoFigures size rows choice code place totals rows' choice')
