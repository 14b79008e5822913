-- The evening at the program's edge: what its outputs hold of the book that came.
use Rattle.std.specs.Prelude.{List, ℕ, Option, Result, Ok, Err}
use Rattle.std.specs.Io.KnownBytes.{Consumes, IsAtEnd, Appends, Keeps}
use Rattle.paper.specs.Refusals.{verdict_of}
use Rattle.paper.specs.Listing.{listing_of}
use Rattle.margin.specs.Counted.{KeptOf}
use Rattle.listing.specs.Page.{said}
use Rattle.listing.specs.declared.Failure.{Failure}
use Rattle.listing.specs.declared.Failure.TheVariants.{Unread, Cut, Untold}

-- of every book that was so kept and counted an output grew by its listing
abbrev pub Handed : List ℕ → ℕ → Option (List ℕ) → Option (List ℕ) → Type 0
Handed kept size old new = (b : List ℕ) → KeptOf b kept size → Appends old new (listing_of b)

-- and by what is said of its verdict
abbrev pub Told : List ℕ → ℕ → Option (List ℕ) → Option (List ℕ) → Type 0
Told kept size old new = (b : List ℕ) → KeptOf b kept size → Appends old new (said b (verdict_of b))

-- what was kept and counted is published: its listing, and what is said of it; where the one is cut, the other is not begun
abbrev pub Published : {A : Type 0} → List ℕ → ℕ → Option (List ℕ) → Option (List ℕ) → Option (List ℕ) → Option (List ℕ) → Result A Failure → Type 0
Published kept size out out' err err' (Ok u) = Handed kept size out out' × Told kept size err err'
Published kept size out out' err err' (Err Untold) = Handed kept size out out'
Published kept size out out' err err' (Err Cut) = Keeps err err'
Published kept size out out' err err' (Err Unread) = ⊥

-- a reader gave this book, and has no more
pub record Gave (old new : Option (List ℕ)) (b : List ℕ) : Type 0 where
  pub consumed : Consumes old new b
  pub at_end : IsAtEnd new

-- the output grew by the listing of the book that came, and the errors by what is said of it; without a book both are as they were
abbrev pub Evening : {A : Type 0} → Option (List ℕ) → Option (List ℕ) → Option (List ℕ) → Option (List ℕ) → Option (List ℕ) → Option (List ℕ) → Result A Failure → Type 0
Evening from from' out out' err err' (Ok u) = (b : List ℕ) × Gave from from' b × Appends out out' (listing_of b) × Appends err err' (said b (verdict_of b))
Evening from from' out out' err err' (Err Untold) = (b : List ℕ) × Gave from from' b × Appends out out' (listing_of b)
Evening from from' out out' err err' (Err Cut) = Keeps err err'
Evening from from' out out' err err' (Err Unread) = Keeps out out' × Keeps err err'
