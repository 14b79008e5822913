-- A vector of amounts, and a row that it is slid over.
use Rattle.std.specs.Prelude.{List, ℕ, ◌+◌, ◌<◌, ℤ, pos, ◌+ℤ◌, length, get_or, take, drop}
use Rattle.std.specs.Int.{w64}
use Rattle.std.proofs.Common.{SFits}
use Rattle.paper.specs.Sums.{listed, lowest}
use Rattle.paper.specs.Windows.{window_from, window_more, lowest_near, first_at}

-- the entry at point y
abbrev pub entry_of : List ℤ → ℕ → ℤ
entry_of v y = get_or v y (pos 0)

-- v's entries at the points within reach r of x
abbrev pub within : List ℤ → ℕ → ℕ → List ℤ
within v r x = take (window_more (length v) r x + 1) (drop (window_from r x) v)

-- of the points a, .., a + n the lowest-numbered with the lowest entry there
abbrev pub first_lowest : (ℕ → ℤ) → ℕ → ℕ → ℕ
first_lowest v a n = first_at v (lowest v a n) a n

-- the row's entry at x and v's lowest entry within reach r of x, together
abbrev pub slid_at : List ℤ → List ℤ → ℕ → ℕ → ℤ
slid_at row v r x = entry_of row x +ℤ lowest_near (length v) (entry_of v) r x

-- the row with v slid over it
unfoldable pub slid : List ℤ → List ℤ → ℕ → List ℤ
slid row v r = listed (length row) (slid_at row v r)

-- each of its entries fits an i64
abbrev pub SlideFits : List ℤ → List ℤ → ℕ → Type 0
SlideFits row v r = (x : ℕ) → x < length row → SFits w64 (slid_at row v r x)
