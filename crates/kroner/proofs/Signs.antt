-- The text of an amount, by its sign. Assumes nothing.
use mathlib.Core.Path.{◌≡◌, refl}
use mathlib.Core.Bool.{true, false}
use mathlib.Core.List.{List, [], ◌∷◌, ◌++◌}
use Prim.Native.Nat.{ℕ, suc, ◌/◌, ◌^◌, ◌≤◌, ◌<◌}
use native.Mathlib.Omega.{arith}
use lib.IntN.{ℤ, pos, negsuc, nat_abs}
use lib.ListN.{length, length-append}
use lib.Signed.{mag, lt_z}
use Rattle.paper.specs.Listing.{digit, decimal, kroner}
use Rattle.amount.proofs.Ints.{ints}
use Rattle.text.proofs.Decimal.{decimal_length}

-- the text of an amount, by its sign
abbrev pub unsigned : ℕ → List ℕ
unsigned n = decimal (n / 100) ++ (46 ∷ digit (n / 10) ∷ digit n ∷ [])

pub kroner_loss : (z : ℤ) → lt_z z (pos 0) ≡ true → kroner z ≡ 45 ∷ unsigned (nat_abs z)
unfolding kroner
kroner_loss (pos n) h = absurd (omega ints)
kroner_loss (negsuc n) h = refl

pub kroner_gain : (z : ℤ) → lt_z z (pos 0) ≡ false → kroner z ≡ unsigned (nat_abs z)
unfolding kroner
kroner_gain (pos n) h = refl
kroner_gain (negsuc n) h = absurd (omega ints)

-- the text of any i64 but for its sign has at most 20 bytes, so that 24 hold it with its sign
pub unsigned_short : (n : ℕ) → n ≤ 2 ^ 63 → length (unsigned n) ≤ 20
unsigned_short n h = rw length-append (omega (arith, decimal_length 16 (n / 100) (omega arith)))

-- the text of any i64
pub kroner_short : (z : ℤ) → mag z < 2 ^ 63 → length (kroner z) ≤ 21
unfolding kroner
kroner_short (pos n) h = let l = unsigned_short n (omega arith) in omega arith
kroner_short (negsuc n) h = let l = unsigned_short (suc n) (omega arith) in omega arith

-- what the proof of the function that writes cites
pub ruleset write_rules = (kroner_loss, kroner_gain, unsigned_short)
