-- Laws of `only`, an amount under a test. Assumes nothing.
use mathlib.Core.Path.{◌≡◌, refl, sym}
use mathlib.Core.Bool.{Bool, true, false}
use Prim.Native.Nat.{ℕ}
use lib.IntN.{ℤ, pos, ◌+ℤ◌}
use lib.Signed.{◌≤ℤ◌, ≤ℤ_refl}
use Rattle.paper.specs.Sums.{sum, only}
use Rattle.amount.proofs.Sums.{sum_zero}

pub only_zero : (b : Bool) → only b (pos 0) ≡ pos 0
only_zero true = refl
only_zero false = refl

pub only_mono : (b : Bool) (y z : ℤ) → y ≤ℤ z → only b y ≤ℤ only b z
only_mono true y z h = h
only_mono false y z h = ≤ℤ_refl (pos 0)

pub only_add : (b : Bool) (y z : ℤ) → only b (y +ℤ z) ≡ only b y +ℤ only b z
only_add true y z = refl
only_add false y z = refl

pub only_swap : (a b : Bool) (z : ℤ) → only a (only b z) ≡ only b (only a z)
only_swap true b z = refl
only_swap false b z = sym (only_zero b)

pub only_sum : (b : Bool) (n : ℕ) (f : ℕ → ℤ) → only b (sum n f) ≡ sum n (λ k. only b (f k))
only_sum true n f = refl
only_sum false n f = sym (sum_zero n)
