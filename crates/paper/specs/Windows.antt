-- "The window": its width and reach, the lowest entry within reach of a point, and the point that is chosen there.
use Rattle.std.specs.Prelude.{cond, ℕ, zero, suc, ◌+◌, ◌-◌, ◌*◌, ◌/◌, ◌≤◌, min, ℤ}
use Rattle.std.specs.Int.Signed.{le_z}
use Rattle.paper.specs.Sums.{lowest}

-- "The width is the smallest odd number not below share times points / 10,000."
unfoldable pub width : ℕ → ℕ → ℕ
width share points = (share * points + 9999) / 10000 / 2 * 2 + 1

-- "Half the width, rounded down, is the reach."
abbrev pub reach_of : ℕ → ℕ → ℕ
reach_of share points = width share points / 2

-- x and y are within r of each other
abbrev pub Near : ℕ → ℕ → ℕ → Type 0
Near r x y = (x ≤ y + r) × (y ≤ x + r)

-- the points within reach r of x: the first, and how many more; "points off the scale don't exist"
abbrev pub window_from : ℕ → ℕ → ℕ
window_from r x = x - r

abbrev pub window_more : ℕ → ℕ → ℕ → ℕ
window_more points r x = min (x + r) (points - 1) - window_from r x

-- "lowest entry at points within reach of i"
unfoldable pub lowest_near : ℕ → (ℕ → ℤ) → ℕ → ℕ → ℤ
lowest_near points v r x = lowest v (window_from r x) (window_more points r x)

-- of the points a, a + 1, .., a + n the lowest-numbered at which v is not above z; the last where there is none
unfoldable pub first_at : (ℕ → ℤ) → ℤ → ℕ → ℕ → ℕ
first_at v z a zero = a
first_at v z a (suc n) = cond (le_z (v a) z) a (first_at v z (a + 1) n)

-- "the lowest-numbered point with its lowest entry within .. reach"
unfoldable pub chosen_near : ℕ → (ℕ → ℤ) → ℕ → ℕ → ℕ
chosen_near points v r x = first_at v (lowest_near points v r x) (window_from r x) (window_more points r x)
