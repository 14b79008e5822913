-- `nearest z d` is the whole number nearest to z / d, halves away from zero, and nothing else is. Assumes nothing.
use mathlib.Core.Path.{◌≡◌, refl, sym, ap, ◌∙◌}
use Prim.Native.Nat.{ℕ, zero, suc, ◌+◌, ◌-◌, ◌*◌, ◌%◌, ◌≤◌, ◌<◌}
use native.Mathlib.Nat.{zero-mul, div-add-mod', mod-lt, mul-le-mul_right, mul-le-mul_left}
use native.Mathlib.Omega.{arith}
use native.Mathlib.Decide.{ℕ_discrete, dec_lt}
use lib.IntN.{ℤ, pos, negsuc, neg_ℤ, nat_abs, ◌-ℤ◌, ◌*ℤ◌, neg_ℤ-neg_ℤ, +ℤ_idl}
use lib.Signed.{◌≤ℤ◌, ◌<ℤ◌}
use Rattle.paper.specs.Rounding.{nearest_size, nearest, distance, Nearest}
use Rattle.amount.proofs.Ints.{ints}

far : (n m : ℕ) → nat_abs (pos n -ℤ pos m) ≡ (n - m) + (m - n)
far n m = omega ints

across : (n m : ℕ) → nat_abs (pos n -ℤ neg_ℤ (pos m)) ≡ n + m
across n m = omega ints

-- n / d is off by at most half a unit, and by less where it is rounded down
module _ (n d : ℕ) (h : 0 < d) where
  split : nearest_size n d * (2 * d) + (2 * n + d) % (2 * d) ≡ 2 * n + d
  split = div-add-mod' (2 * n + d) (2 * d)

  rest : (2 * n + d) % (2 * d) < 2 * d
  rest = mod-lt (2 * n + d) (omega arith)

  pub size_near : (p : ℕ) → (n - nearest_size n d * d) + (nearest_size n d * d - n) ≤ (n - p * d) + (p * d - n)
  size_near p = elim (dec_lt p (nearest_size n d)) [
    | yes l ↦ omega (arith, split, rest, mul-le-mul_right d l)
    | no l ↦ elim (ℕ_discrete p (nearest_size n d)) [
      | yes e ↦ rw e (omega arith)
      | no e ↦ let g : nearest_size n d < p = omega arith in omega (arith, split, rest, mul-le-mul_right d g)
    ]
  ]

  pub size_away : (p : ℕ) → (n - p * d) + (p * d - n) ≡ (n - nearest_size n d * d) + (nearest_size n d * d - n) → p ≤ nearest_size n d
  size_away p e = elim (dec_lt (nearest_size n d) p) [
    | yes l ↦ absurd (omega (arith, split, rest, mul-le-mul_right d l))
    | no l ↦ omega arith
  ]

  pub size_half : (n - nearest_size n d * d) + (nearest_size n d * d - n) < d
  size_half = omega (arith, split, rest)

  pub size_small : nearest_size n d ≤ n + 1
  size_small = elim (dec_lt (n + 1) (nearest_size n d)) [
    | yes l ↦ absurd (omega (arith, split, mul-le-mul_right (2 * d) l, mul-le-mul_left n h))
    | no l ↦ omega arith
  ]

  nearest_pos : Nearest (pos n) d (pos (nearest_size n d))
  nearest_pos = record { near = near; away = away }
    where
      near : (s : ℤ) → distance (pos n) d (pos (nearest_size n d)) ≤ distance (pos n) d s
      near (pos p) = rw (far n (nearest_size n d * d), far n (p * d)) (size_near p)
      near (negsuc p) = rw (far n (nearest_size n d * d), across n (suc p * d)) (omega (arith, size_half))

      away : (s : ℤ) → distance (pos n) d s ≡ distance (pos n) d (pos (nearest_size n d)) → nat_abs s ≤ nearest_size n d
      away (pos p) e = size_away p (rw (far n (nearest_size n d * d), far n (p * d)) at e)
      away (negsuc p) e = absurd (omega (arith, size_half, rw (far n (nearest_size n d * d), across n (suc p * d)) at e))

  only_pos : (r : ℤ) → Nearest (pos n) d r → r ≡ pos (nearest_size n d)
  only_pos (pos p) N =
      let e : distance (pos n) d (pos p) ≡ distance (pos n) d (pos (nearest_size n d)) =
      omega (arith, N.near (pos (nearest_size n d)), nearest_pos.near (pos p)) in
      ap pos (omega (arith, N.away (pos (nearest_size n d)) (sym e), nearest_pos.away (pos p) e))
  only_pos (negsuc p) N = absurd (omega (arith, rw (across n (suc p * d), far n (0 * d)) at (N.near (pos 0))))

-- the same on the other side of zero
minus_times : (s : ℤ) (d : ℕ) → neg_ℤ s *ℤ pos d ≡ neg_ℤ (s *ℤ pos d)
minus_times (pos zero) d = rw (zero-mul d)
minus_times (pos (suc n)) d = refl
minus_times (negsuc n) d = sym (neg_ℤ-neg_ℤ (pos (suc n * d)))

size_minus : (z : ℤ) → nat_abs (neg_ℤ z) ≡ nat_abs z
size_minus z = omega ints

mirror : (z s : ℤ) (d : ℕ) → distance (neg_ℤ z) d s ≡ distance z d (neg_ℤ s)
mirror z s d = rw (minus_times s d) (omega ints)

flip : {z r : ℤ} {d : ℕ} → Nearest z d r → Nearest (neg_ℤ z) d (neg_ℤ r)
flip {z} {r} {d} N = record {
  near = λ s. rw (mirror z (neg_ℤ r) d, mirror z s d, neg_ℤ-neg_ℤ r) (N.near (neg_ℤ s));
  away = λ s e. rw (size_minus r) (rw (size_minus s) at (N.away (neg_ℤ s) (rw (mirror z (neg_ℤ r) d, mirror z s d, neg_ℤ-neg_ℤ r) at e)));
}

pub nearest_is : (z : ℤ) (d : ℕ) → 0 < d → Nearest z d (nearest z d)
unfolding nearest
nearest_is (pos n) d h = nearest_pos n d h
nearest_is (negsuc n) d h = flip (nearest_pos (suc n) d h)

pub nearest_only : (z : ℤ) (d : ℕ) → 0 < d → (r : ℤ) → Nearest z d r → r ≡ nearest z d
unfolding nearest
nearest_only (pos n) d h r N = only_pos n d h r N
nearest_only (negsuc n) d h r N = sym (neg_ℤ-neg_ℤ r) ∙ ap neg_ℤ (only_pos (suc n) d h (neg_ℤ r) (flip N))

-- by the sign of z, as the code goes
pub nearest_loss : (z : ℤ) (d : ℕ) → z <ℤ pos 0 → nearest z d ≡ (pos 0 -ℤ pos (nearest_size (nat_abs z) d))
unfolding nearest
nearest_loss (pos n) d h = absurd (omega ints)
nearest_loss (negsuc n) d h = sym (+ℤ_idl (neg_ℤ (pos (nearest_size (suc n) d))))

pub nearest_gain : (z : ℤ) (d : ℕ) → pos 0 ≤ℤ z → nearest z d ≡ pos (nearest_size (nat_abs z) d)
unfolding nearest
nearest_gain (pos n) d h = refl
nearest_gain (negsuc n) d h = absurd (omega ints)
