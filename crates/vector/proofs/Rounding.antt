-- More laws of `nearest`: it keeps order and sign, it does not see a factor that numerator and divisor share, and it stays
-- within a whole bound. Assumes nothing.
use mathlib.Core.Path.{◌≡◌, refl, sym, ap, ◌∙◌}
use Prim.Native.Nat.{ℕ, zero, suc, ◌+◌, ◌*◌, ◌≤◌, ◌<◌}
use native.Mathlib.Nat.{add-mul, mul_assoc, mul_left_comm, suc-mul, le-div_iff_mul-le, div-lt_iff_lt-mul, div-mul-le_self, div-eq_of_lt, mul-div-mul_right}
use native.Mathlib.Omega.{arith}
use lib.IntN.{ℤ, pos, negsuc, neg_ℤ, nat_abs, ◌*ℤ◌, neg_ℤ-neg_ℤ}
use lib.Signed.{◌≤ℤ◌}
use Rattle.paper.specs.Rounding.{nearest_size, nearest}
use Rattle.amount.proofs.Ints.{ints, neg}
use Rattle.vector.proofs.Signs.{size_neg}

size_none : (d : ℕ) → nearest_size 0 d ≡ 0
size_none zero = refl
size_none (suc d) = div-eq_of_lt (omega arith)

size_mono : (n k d : ℕ) → 0 < d → n ≤ k → nearest_size n d ≤ nearest_size k d
size_mono n k d h l =
    let g : 0 < 2 * d = omega arith in
    (le-div_iff_mul-le g).1 (omega (arith, div-mul-le_self (2 * n + d) (2 * d)))

size_scale : (n d m : ℕ) → 0 < m → nearest_size (n * m) (d * m) ≡ nearest_size n d
size_scale n d m h = rw (← mul_assoc 2 n m, ← add-mul (2 * n) d m, ← mul_assoc 2 d m) (mul-div-mul_right (2 * n + d) (2 * d) h)

pub nearest_size_lem : (z : ℤ) (d : ℕ) → nat_abs (nearest z d) ≡ nearest_size (nat_abs z) d
unfolding nearest
nearest_size_lem (pos n) d = refl
nearest_size_lem (negsuc n) d = size_neg (pos (nearest_size (suc n) d))

pub nearest_neg : (z : ℤ) (d : ℕ) → nearest (neg_ℤ z) d ≡ neg_ℤ (nearest z d)
unfolding nearest
nearest_neg (pos zero) d = rw (size_none d)
nearest_neg (pos (suc n)) d = refl
nearest_neg (negsuc n) d = sym (neg_ℤ-neg_ℤ (pos (nearest_size (suc n) d)))

pub nearest_mono : (z w : ℤ) (d : ℕ) → 0 < d → z ≤ℤ w → nearest z d ≤ℤ nearest w d
unfolding nearest
nearest_mono (pos n) (pos k) d h l = omega (ints, size_mono n k d h (omega ints))
nearest_mono (pos n) (negsuc k) d h l = absurd (omega ints)
nearest_mono (negsuc n) (pos k) d h l = omega (ints, neg (pos (nearest_size (suc n) d)))
nearest_mono (negsuc n) (negsuc k) d h l =
    omega (ints, size_mono (suc k) (suc n) d h (omega ints), neg (pos (nearest_size (suc n) d)), neg (pos (nearest_size (suc k) d)))

pub nearest_scale : (z : ℤ) (d m : ℕ) → 0 < m → nearest (z *ℤ pos m) (d * m) ≡ nearest z d
unfolding nearest
nearest_scale (pos n) d m h = ap pos (size_scale n d m h)
nearest_scale (negsuc n) d m h = nearest_neg (pos (suc n * m)) (d * m) ∙ ap (λ (s : ℕ). neg_ℤ (pos s)) (size_scale (suc n) d m h)

-- over one there is nothing to round
size_whole : (n : ℕ) → nearest_size n 1 ≡ n
size_whole n = omega arith

pub nearest_whole : (z : ℤ) → nearest z 1 ≡ z
unfolding nearest
nearest_whole (pos n) = ap pos (size_whole n)
nearest_whole (negsuc n) = ap (λ (s : ℕ). neg_ℤ (pos s)) (size_whole (suc n))

pub nearest_within : (z : ℤ) (d c : ℕ) → 0 < d → nat_abs z ≤ c * d → nat_abs (nearest z d) ≤ c
nearest_within z d c h l =
    let g : 0 < 2 * d = omega arith in
    let s : nearest_size (nat_abs z) d < suc c =
    (div-lt_iff_lt-mul g).1 (omega (arith, suc-mul c (2 * d), mul_left_comm c 2 d)) in
    omega (arith, nearest_size_lem z d)
