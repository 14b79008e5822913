-- Sizes, and products with a number: what `omega` needs to know of them on ℤ. Assumes nothing.
use mathlib.Core.Path.{◌≡◌, refl, sym, ap, ◌∙◌}
use Prim.Native.Nat.{ℕ, zero, suc, ◌+◌, ◌*◌, ◌≤◌}
use native.Mathlib.Nat.{zero-mul, add-mul, mul_right_comm, mul-le-mul_right}
use native.Mathlib.Omega.{arith}
use lib.IntN.{ℤ, pos, negsuc, neg_ℤ, nat_abs, ◌+ℤ◌, ◌*ℤ◌, neg_ℤ-neg_ℤ, *ℤ-zero, *ℤ-negsuc}
use lib.Dec.{leb-zero}
use lib.Signed.{◌≤ℤ◌, le_z, non_neg}
use mir.Facts.{to_z-of_z}
use mir.Syntax.{w64}
use mir.Val.{SFits, to_z, of_z}
use Rattle.amount.proofs.Ints.{ints, up, down, plus, neg, sign, abs}

pub size_neg : (z : ℤ) → nat_abs (neg_ℤ z) ≡ nat_abs z
size_neg z = omega (arith, abs z, abs (neg_ℤ z), neg z)

pub size_plus : (a b : ℤ) → nat_abs (a +ℤ b) ≤ nat_abs a + nat_abs b
size_plus a b = omega (arith, abs a, abs b, abs (a +ℤ b), plus a b, sign (a +ℤ b))

pub size_times : (a b : ℤ) → nat_abs (a *ℤ b) ≡ nat_abs a * nat_abs b
size_times (pos a) (pos b) = refl
size_times (pos a) (negsuc b) = size_neg (pos (a * suc b))
size_times (negsuc a) (pos b) = size_neg (pos (suc a * b))
size_times (negsuc a) (negsuc b) = refl

pub not_below : (z : ℤ) → le_z (pos 0) z ≡ non_neg z
not_below (pos n) = leb-zero n
not_below (negsuc n) = refl

-- a number is no further below zero than its size
pub size_below : (z : ℤ) (n : ℕ) → nat_abs z ≤ n → neg_ℤ (pos n) ≤ℤ z
size_below z n h = omega (ints, abs z, neg (pos n))

-- z times n, read as two numbers
pub times : (z : ℤ) (n : ℕ) → (up (z *ℤ pos n) ≡ up z * n) × (down (z *ℤ pos n) ≡ down z * n)
times (pos a) n = (refl, sym (zero-mul n))
times (negsuc a) n = ((neg (pos (suc a * n))).0 ∙ sym (zero-mul n), (neg (pos (suc a * n))).1)

pub times_mono : (a b : ℤ) (n : ℕ) → a ≤ℤ b → (a *ℤ pos n) ≤ℤ (b *ℤ pos n)
times_mono a b n h =
    let k : up a + down b ≤ up b + down a = omega ints in
    omega (ints, times a n, times b n, add-mul (up a) (down b) n, add-mul (up b) (down a) n, mul-le-mul_right n k)

pub times_plus : (a b : ℤ) (n : ℕ) → (a +ℤ b) *ℤ pos n ≡ (a *ℤ pos n +ℤ b *ℤ pos n)
times_plus a b n =
    let s : ℤ = a +ℤ b in
    let e : (up s + (down a + down b)) * n ≡ (up a + up b + down s) * n = rw (plus a b) refl in
    omega (
      ints,
      e,
      times a n,
      times b n,
      times s n,
      plus (a *ℤ pos n) (b *ℤ pos n),
      add-mul (up s) (down a + down b) n,
      add-mul (down a) (down b) n,
      add-mul (up a + up b) (down s) n,
      add-mul (up a) (up b) n,
    )

pub times_neg : (z : ℤ) (n : ℕ) → neg_ℤ z *ℤ pos n ≡ neg_ℤ (z *ℤ pos n)
times_neg (pos zero) n = rw (zero-mul n)
times_neg (pos (suc a)) n = refl
times_neg (negsuc a) n = sym (neg_ℤ-neg_ℤ (pos (suc a * n)))

pub times_minus : (z : ℤ) (n : ℕ) → z *ℤ neg_ℤ (pos n) ≡ neg_ℤ (z *ℤ pos n)
times_minus z zero = rw (*ℤ-zero z)
times_minus z (suc n) = *ℤ-negsuc z n

pub times_swap : (z : ℤ) (m n : ℕ) → z *ℤ pos m *ℤ pos n ≡ z *ℤ pos n *ℤ pos m
times_swap (pos a) m n = ap pos (mul_right_comm a m n)
times_swap (negsuc a) m n =
    times_neg (pos (suc a * m)) n
    ∙ ap (λ (k : ℕ). neg_ℤ (pos k)) (mul_right_comm (suc a) m n)
    ∙ sym (times_neg (pos (suc a * n)) m)

pub times_one : (z : ℤ) → z *ℤ pos 1 ≡ z
times_one z = omega (ints, times z 1)

-- what an i64 holds, and its bits read back
pub size_fits : (z : ℤ) → nat_abs z ≤ 4000000000000000000 → SFits w64 z
size_fits z h = omega (ints, abs z, sign z)

-- there is room for a quantity on top
pub size_room : (a b : ℤ) → nat_abs a ≤ 4000000000000000000 → nat_abs b ≤ 4294967296 → SFits w64 (a +ℤ b)
size_room a b h k =
    let l : nat_abs (a +ℤ b) ≤ 4000000004294967296 = omega (arith, size_plus a b) in
    omega (ints, abs (a +ℤ b), sign (a +ℤ b))

pub read_back : (z : ℤ) → nat_abs z ≤ 4000000000000000000 → to_z w64 (of_z w64 z) ≡ z
read_back z h = to_z-of_z (size_fits z h)

pub read_nat : (n : ℕ) → n ≤ 4000000000000000000 → to_z w64 n ≡ pos n
read_nat n h = read_back (pos n) h
