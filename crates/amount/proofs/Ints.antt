-- Order and linear arithmetic on ℤ by one rule set, the library's: an integer z is read as two numbers, `up z` and `down z`,
-- whose difference it is, and `omega ints` proves `≤ℤ`, `<ℤ`, `≡` and `SFits`. Here is what the library lacks. Assumes nothing.
use mathlib.Core.Path.{◌≡◌}
use mathlib.Core.Bool.{Bool, true, false, not}
use Prim.Native.Nat.{◌+◌, ◌^◌, ◌<◌, min}
use native.Mathlib.Omega.{arith}
use borrow.Author.Differences.{ints as int_facts}
use lib.Dec.{T}
use lib.IntN.{ℤ, pos, negsuc, neg_ℤ, nat_abs, ◌+ℤ◌}
use lib.Signed.{mag, ◌≤ℤ◌, ◌<ℤ◌, lt_z, lt_z_yes, lt_z_no}
use mir.Facts.{to_z-of_z}
use mir.Val.{to_z, of_z}
use mir.Syntax.{w64}
pub use borrow.Author.Differences.{up, down}

pub ruleset ints = (arith, int_facts)

-- a sum and a negation, where a list names them
pub plus : (a b : ℤ) → up (a +ℤ b) + (down a + down b) ≡ up a + up b + down (a +ℤ b)
plus a b = omega ints

pub neg : (a : ℤ) → (up (neg_ℤ a) ≡ down a) × (down (neg_ℤ a) ≡ up a)
neg a = omega ints

pub sign : (a : ℤ) → min (up a) (down a) ≡ 0
sign (pos n) = omega arith
sign (negsuc n) = omega arith

-- the size of z
pub abs : (a : ℤ) → nat_abs a ≡ up a + down a
abs (pos n) = omega arith
abs (negsuc n) = omega arith

-- reading back the bits of a number that an i64 holds
pub back : (z : ℤ) → mag z < 2 ^ 63 → to_z w64 (of_z w64 z) ≡ z
back z h = to_z-of_z {w = w64} (record { sfits = h })

pub ≤ℤ-antisymm : {a b : ℤ} → a ≤ℤ b → b ≤ℤ a → a ≡ b
≤ℤ-antisymm {a} {b} h k = omega ints

-- to show P of a test's outcome, show it of both outcomes, each with what the test then says
pub by_lt_z : (P : Bool → Type 0) (a b : ℤ) → (a <ℤ b → P true) → (b ≤ℤ a → P false) → P (lt_z a b)
by_lt_z P a b f g = go (lt_z a b) (λ t. f (lt_z_yes t)) (λ t. g (lt_z_no t))
  where
    go : (c : Bool) → (T c → P true) → (T (not c) → P false) → P c
    go true f g = f tt
    go false f g = g tt
