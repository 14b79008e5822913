-- The window's words have the meaning that the paper gives them: the width is the smallest odd number that is enough, the
-- lowest entry within reach is the lowest over exactly the points within reach, and the chosen point is the
-- lowest-numbered that has it. Assumes nothing.
use mathlib.Core.Path.{◌≡◌, ◌∙◌}
use Prim.Native.Nat.{ℕ, ◌+◌, ◌-◌, ◌*◌, ◌/◌, ◌%◌, ◌≤◌, ◌<◌}
use native.Mathlib.Omega.{arith}
use lib.IntN.{ℤ}
use lib.Signed.{◌≤ℤ◌, ◌<ℤ◌}
use Rattle.paper.specs.Sums.{lowest}
use Rattle.paper.specs.Windows.{width, Near, window_from, window_more, lowest_near, chosen_near}
use Rattle.amount.proofs.Ints.{ints}
use Rattle.amount.proofs.Worst.{Lowest, lowest_is, lowest_only, lowest_cong, lowest_mono}
use Rattle.window.proofs.First.{FirstLowest, first_lowest_is, first_lowest_only}

-- w is odd, not below share * points / 10,000, and no smaller odd number is so
pub record Width (share points w : ℕ) : Type 0 where
  pub odd : w % 2 ≡ 1
  pub enough : share * points ≤ w * 10000
  pub least : (u : ℕ) → u % 2 ≡ 1 → share * points ≤ u * 10000 → w ≤ u

pub width_is : (share points : ℕ) → Width share points (width share points)
unfolding width
width_is share points = record { odd = omega arith; enough = omega arith; least = λ u o e. omega arith }

pub width_only : {share points w : ℕ} → Width share points w → w ≡ width share points
width_only {share} {points} {w} j =
    let i : Width share points (width share points) = width_is share points in
    omega (arith, i.least w j.odd j.enough, j.least (width share points) i.odd i.enough)

-- z is the lowest of v over the points of the scale within r of x
pub record LowestNear (points : ℕ) (v : ℕ → ℤ) (r x : ℕ) (z : ℤ) : Type 0 where
  pub below : (y : ℕ) → y < points → Near r x y → z ≤ℤ v y
  pub at : ℕ
  pub on : at < points
  pub near : Near r x at
  pub is : v at ≡ z

module _ (points : ℕ) (r x : ℕ) (h : x < points) where
  pub near_is : (v : ℕ → ℤ) → LowestNear points v r x (lowest_near points v r x)
  unfolding lowest_near
  near_is v =
      let i : Lowest v (window_from r x) (window_more points r x) (lowest_near points v r x) = lowest_is v (window_from r x) (window_more points r x) in
      let l : i.at ≤ window_from r x + window_more points r x = i.to in
      record { below = λ y l n. i.below y (omega arith) (omega arith); at = i.at; on = omega arith; near = omega arith; is = i.is }

  pub near_only : {v : ℕ → ℤ} {z : ℤ} → LowestNear points v r x z → z ≡ lowest_near points v r x
  near_only {v} {z} j =
      let i : LowestNear points v r x (lowest_near points v r x) = near_is v in
      omega (ints, j.below i.at i.on i.near, i.below j.at j.on j.near, i.is, j.is)

  -- entries that agree, and entries of which none is above the other's
  pub near_cong : {v w : ℕ → ℤ} → ((y : ℕ) → y < points → v y ≡ w y) → lowest_near points v r x ≡ lowest_near points w r x
  unfolding lowest_near
  near_cong e = lowest_cong (window_from r x) (window_more points r x) (λ y a b. e y (omega arith))

  pub near_mono : {v w : ℕ → ℤ} → ((y : ℕ) → y < points → v y ≤ℤ w y) → lowest_near points v r x ≤ℤ lowest_near points w r x
  unfolding lowest_near
  near_mono e = lowest_mono (window_from r x) (window_more points r x) (λ y a b. e y (omega arith))

-- with the whole scale in reach of x, the lowest of the scale
pub near_whole : (points : ℕ) (v : ℕ → ℤ) (x : ℕ) → x < points → lowest_near points v points x ≡ lowest v 0 (points - 1)
near_whole points v x h =
    let i : LowestNear points v points x (lowest_near points v points x) = near_is points points x h v in
    lowest_only (record { below = λ y a b. i.below y (omega arith) (omega arith); at = i.at; from = omega arith; to = omega (arith, i.on); is = i.is })

-- b is the lowest-numbered point of the scale within r of x that has the lowest entry there
pub record ChosenNear (points : ℕ) (v : ℕ → ℤ) (r x b : ℕ) : Type 0 where
  pub on : b < points
  pub near : Near r x b
  pub is : v b ≡ lowest_near points v r x
  pub early : (y : ℕ) → y < points → Near r x y → y < b → lowest_near points v r x <ℤ v y

module _ (points : ℕ) (v : ℕ → ℤ) (r x : ℕ) (h : x < points) where
  pub chosen_is : ChosenNear points v r x (chosen_near points v r x)
  unfolding chosen_near lowest_near
  chosen_is =
      let b : ℕ = chosen_near points v r x in
      let i : FirstLowest v (window_from r x) (window_more points r x) b = first_lowest_is v (window_from r x) (window_more points r x) in
      let to : b ≤ window_from r x + window_more points r x = i.to in
      record { on = omega arith; near = omega (arith, i.from); is = i.is; early = λ y l n m. i.early y (omega arith) m }

  pub chosen_only : {b : ℕ} → ChosenNear points v r x b → b ≡ chosen_near points v r x
  unfolding chosen_near lowest_near
  chosen_only {b} j =
      let near : Near r x b = j.near in
      let on : b < points = j.on in
      first_lowest_only (record { from = omega arith; to = omega arith; is = j.is; early = λ y l m. j.early y (omega arith) (omega arith) m })

-- a root, a child of the middle point with the whole scale in reach, takes a point with the lowest entry of the scale
pub root_is : (points : ℕ) (v : ℕ → ℤ) → 0 < points → v (chosen_near points v points ((points - 1) / 2)) ≡ lowest v 0 (points - 1)
root_is points v h =
    let middle : (points - 1) / 2 < points = omega arith in
    (chosen_is points v points ((points - 1) / 2) middle).is ∙ near_whole points v ((points - 1) / 2) middle
