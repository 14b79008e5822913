-- The row that a slide leaves: its length, and its entries. Assumes nothing.
use mathlib.Core.Path.{◌≡◌}
use mathlib.Core.List.{List}
use Prim.Native.Nat.{ℕ, ◌<◌}
use lib.IntN.{ℤ, pos}
use lib.ListN.{length}
use Rattle.amount.proofs.Lists.{listed_length, listed_at}
use Rattle.window.specs.Slides.{entry_of, slid_at, slid}

pub slid_length : (row v : List ℤ) (r : ℕ) → length (slid row v r) ≡ length row
unfolding slid
slid_length row v r = listed_length (length row) (slid_at row v r)

pub slid_at_lem : (row v : List ℤ) (r x : ℕ) → x < length row → entry_of (slid row v r) x ≡ slid_at row v r x
unfolding slid
slid_at_lem row v r x h = listed_at (length row) x (slid_at row v r) (pos 0) h
