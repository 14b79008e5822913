-- "Rounding is to nearest, halves away from zero (ours)."
use Rattle.std.specs.Prelude.{◌≡◌, ℕ, suc, ◌+◌, ◌*◌, ◌/◌, ◌≤◌, ℤ, pos, negsuc, neg_ℤ, nat_abs, ◌-ℤ◌, ◌*ℤ◌}

-- n / d, with half a unit added and the rest dropped
abbrev pub nearest_size : ℕ → ℕ → ℕ
nearest_size n d = (2 * n + d) / (2 * d)

-- z / d, rounded; a negative as its size is
unfoldable pub nearest : ℤ → ℕ → ℤ
nearest (pos n) d = pos (nearest_size n d)
nearest (negsuc n) d = neg_ℤ (pos (nearest_size (suc n) d))

-- how far r is from z / d, in parts of d
abbrev pub distance : ℤ → ℕ → ℤ → ℕ
distance z d r = nat_abs (z -ℤ r *ℤ pos d)

-- what that is to mean: no whole number is nearer to z / d than r, and none that is as near is further from zero
pub record Nearest (z : ℤ) (d : ℕ) (r : ℤ) : Type 0 where
  pub near : (s : ℤ) → distance z d r ≤ distance z d s
  pub away : (s : ℤ) → distance z d s ≡ distance z d r → nat_abs s ≤ nat_abs r
