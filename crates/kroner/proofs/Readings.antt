-- How a text is read, digit by digit. Assumes nothing.
use mathlib.Core.Path.{◌≡◌, refl, ap, ◌∙◌}
use mathlib.Core.List.{List, [], ◌∷◌}
use Prim.Native.Nat.{ℕ, zero, suc, ◌+◌, ◌-◌, ◌≤◌, ◌<◌}
use native.Mathlib.Omega.{arith}
use native.Mathlib.Decide.{dec_le, dec_lt}
use native.Mathlib.Numerals.{add-one}
use borrow.Author.Tests.{eq-eqb, ne_eqb, le-leb, lt-leb, lt-ltb, le-ltb}
use lib.IntN.{ℤ, pos, neg_ℤ, ◌+ℤ◌, ◌-ℤ◌}
use lib.ListN.{length, get_or, take, drop, length-drop, drop_of_length-le}
use lib.Seq.{drop-cons, take_all}
use Rattle.amount.proofs.Ints.{ints, plus}
use Rattle.std.specs.Prelude.{Option, Some, None, option_and_then, FitsSigned}
use Rattle.std.specs.Option.{SomeIff}
use Rattle.std.specs.Int.{w64}
use Rattle.kroner.specs.Reading.{most, further, number_from, size_of, signed, read_of}

-- one digit more
pub number_next : (n : ℕ) (s : List ℕ) (i : ℕ) → i < length s → number_from n (drop i s) ≡ option_and_then (λ m. number_from m (drop (i + 1) s)) (further n (get_or s i 0))
unfolding number_from
number_next n s i h = rw (drop-cons s i 0 h, add-one)

pub number_done : (n : ℕ) (s : List ℕ) (i : ℕ) → length s ≤ i → number_from n (drop i s) ≡ Some n
unfolding number_from
number_done n s i h = rw (drop_of_length-le s h)

-- the ways that a text without its sign is read
pub size_short : (s : List ℕ) → length s < 4 → size_of s ≡ None
unfolding size_of
size_short s h = rw (lt-leb 4 (length s) h)

pub size_pointless : (s : List ℕ) → 4 ≤ length s → (get_or s (length s - 3) 0 ≡ 46 → ⊥) → size_of s ≡ None
unfolding size_of
size_pointless s h n = rw (le-leb 4 (length s) h, ne_eqb (get_or s (length s - 3) 0) 46 n)

pub and_then_some : (o : Option ℕ) → option_and_then (λ k. Some k) o ≡ o
and_then_some None = refl
and_then_some (Some k) = refl

pub two_digits : (n a b : ℕ) → number_from n (a ∷ b ∷ []) ≡ option_and_then (λ m. further m b) (further n a)
unfolding number_from
two_digits n a b = ap (λ (f : ℕ → Option ℕ). option_and_then f (further n a)) (λ i m. and_then_some (further m b) i)

last_two : (n : ℕ) (s : List ℕ) → 4 ≤ length s →
    number_from n (drop (length s - 2) s) ≡ option_and_then (λ m. further m (get_or s (length s - 1) 0)) (further n (get_or s (length s - 2) 0))
last_two n s h =
    let e : suc (length s - 2) ≡ length s - 1 = omega arith in
    let f : suc (length s - 1) ≡ length s = omega arith in
    let g : length s ≤ length s = omega arith in
    rw (drop-cons s (length s - 2) 0 (omega arith), e, drop-cons s (length s - 1) 0 (omega arith), f, drop_of_length-le s g)
    (two_digits n (get_or s (length s - 2) 0) (get_or s (length s - 1) 0))

pub size_is : (s : List ℕ) → 4 ≤ length s → get_or s (length s - 3) 0 ≡ 46 →
    size_of s ≡ option_and_then (λ n. option_and_then (λ m. further m (get_or s (length s - 1) 0)) (further n (get_or s (length s - 2) 0))) (number_from 0 (take (length s - 3) s))
unfolding size_of
size_is s h e = rw (le-leb 4 (length s) h, eq-eqb (get_or s (length s - 3) 0) 46 e) (simp (last_two))

-- a text is read with its sign
pub read_loss : (s : List ℕ) → get_or s 0 0 ≡ 45 → read_of s ≡ option_and_then (λ size. signed size 1) (size_of (take (length s - 1) (drop 1 s)))
unfolding read_of
read_loss s e =
    let h : length (drop 1 s) ≤ length s - 1 = omega (arith, length-drop 1 s) in
    rw (eq-eqb (get_or s 0 0) 45 e, take_all (length s - 1) (drop 1 s) h)

pub read_gain : (s : List ℕ) → (get_or s 0 0 ≡ 45 → ⊥) → read_of s ≡ option_and_then (λ size. signed size 0) (size_of s)
unfolding read_of
read_gain s n = rw (ne_eqb (get_or s 0 0) 45 n)

-- a size with its sign, where an i64 holds it
nothing_less : (m : ℕ) → (pos 0 -ℤ pos m) ≡ neg_ℤ (pos m)
nothing_less m = omega (ints, plus (pos 0) (neg_ℤ (pos m)))

nothing_more : (m : ℕ) → (pos 0 +ℤ pos m) ≡ pos m
nothing_more m = omega (ints, plus (pos 0) (pos m))

loss_in : (m : ℕ) → m ≤ most → FitsSigned w64 (neg_ℤ (pos m))
loss_in zero h = record { sfits = omega arith }
loss_in (suc m) h = record { sfits = omega arith }

loss_out : (m : ℕ) → FitsSigned w64 (neg_ℤ (pos m)) → m ≤ most
loss_out zero h = omega arith
loss_out (suc m) h = omega (arith, h.sfits)

pub loss_is : (m : ℕ) (r : Option ℤ) → SomeIff r (FitsSigned w64 (pos 0 -ℤ pos m)) (pos 0 -ℤ pos m) → r ≡ signed m 1
loss_is m None h = elim (dec_le m most) [
  | yes k ↦ absurd (h (rw (nothing_less m) (loss_in m k)))
  | no k ↦ rw (lt-leb m most (omega arith))
]
loss_is m (Some z) h = rw (le-leb m most (loss_out m (rw (nothing_less m) at h.0))) (ap Some (h.1 ∙ nothing_less m))

pub gain_is : (m : ℕ) (r : Option ℤ) → SomeIff r (FitsSigned w64 (pos 0 +ℤ pos m)) (pos 0 +ℤ pos m) → r ≡ signed m 0
gain_is m None h = elim (dec_lt m most) [
  | yes k ↦ absurd (h (rw (nothing_more m) (record { sfits = k })))
  | no k ↦ rw (le-ltb m most (omega arith))
]
gain_is m (Some z) h = let k : FitsSigned w64 (pos m) = rw (nothing_more m) at h.0 in rw (lt-ltb m most k.sfits) (ap Some (h.1 ∙ nothing_more m))

-- what the proofs of the functions that read cite
pub ruleset number_rules = (number_next, number_done)

pub ruleset size_rules = (size_short, size_pointless, size_is)

pub ruleset read_rules = (read_loss, read_gain, loss_is, gain_is)
