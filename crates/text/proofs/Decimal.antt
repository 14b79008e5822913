-- Laws of decimal digits. Assumes nothing.
use mathlib.Core.Path.{◌≡◌, sym, ap, ◌∙◌}
use mathlib.Core.List.{List, [], ◌∷◌, ◌++◌, append_assoc}
use Prim.Native.Nat.{ℕ, zero, suc, ◌+◌, ◌/◌, ◌^◌, ◌≤◌, ◌<◌}
use native.Mathlib.Omega.{arith}
use native.Mathlib.Decide.{dec_lt}
use borrow.Author.Tests.{lt-ltb, le-ltb}
use lib.ListN.{length, length-append}
use Rattle.paper.specs.Listing.{digit, digits, decimal}
use Rattle.text.specs.Text.{room}

-- of a number below 10 there is one digit, and no room for more changes that
one_digit : (f n : ℕ) → n < 10 → digits (suc f) n ≡ digit n ∷ []
unfolding digits
one_digit f n h = rw (lt-ltb n 10 h)

more_digits : (f n : ℕ) → 10 ≤ n → digits (suc f) n ≡ digits f (n / 10) ++ (digit n ∷ [])
unfolding digits
more_digits f n h = rw (le-ltb n 10 h)

same : (f g n : ℕ) → n ≤ f → n ≤ g → digits (suc f) n ≡ digits (suc g) n
same zero g n h k = one_digit zero n (omega arith) ∙ sym (one_digit g n (omega arith))
same (suc f) zero n h k = one_digit (suc f) n (omega arith) ∙ sym (one_digit zero n (omega arith))
same (suc f) (suc g) n h k = elim (dec_lt n 10) [
  | yes l ↦ one_digit (suc f) n l ∙ sym (one_digit (suc g) n l)
  | no l ↦
      more_digits (suc f) n (omega arith)
      ∙ ap (λ (s : List ℕ). s ++ (digit n ∷ [])) (same f g (n / 10) (omega arith) (omega arith))
      ∙ sym (more_digits (suc g) n (omega arith))
]

pub decimal_one : (n : ℕ) → n < 10 → decimal n ≡ digit n ∷ []
unfolding decimal
decimal_one n h = one_digit n n h

pub decimal_more : (n : ℕ) → 10 ≤ n → decimal n ≡ decimal (n / 10) ++ (digit n ∷ [])
unfolding decimal
decimal_more zero h = absurd (omega arith)
decimal_more (suc n) h =
    more_digits (suc n) (suc n) h
    ∙ ap (λ (s : List ℕ). s ++ (digit (suc n) ∷ [])) (same n (suc n / 10) (suc n / 10) (omega arith) (omega arith))

-- what stands in front of a text
pub decimal_front : (n : ℕ) (s : List ℕ) → 10 ≤ n → decimal n ++ s ≡ decimal (n / 10) ++ (digit n ∷ s)
decimal_front n s h = rw (decimal_more n h, append_assoc)

-- a number below 10 ^ k has at most k digits
pub decimal_length : (k n : ℕ) → n < 10 ^ suc k → length (decimal n) ≤ suc k
decimal_length zero n h = rw (decimal_one n (omega arith)) (omega arith)
decimal_length (suc k) n h = elim (dec_lt n 10) [
  | yes l ↦ rw (decimal_one n l) (omega arith)
  | no l ↦ rw (decimal_more n (omega arith), length-append) (omega (arith, decimal_length k (n / 10) (omega arith)))
]

pub decimal_some : (n : ℕ) → 1 ≤ length (decimal n)
decimal_some n = elim (dec_lt n 10) [
  | yes k ↦ rw (decimal_one n k) (omega arith)
  | no k ↦ rw (decimal_more n (omega arith), length-append) (omega arith)
]

-- while there are digits left of a number that a u64 holds, there is room for one more
pub room_left : (m n : ℕ) (t s : List ℕ) → decimal m ++ t ≡ decimal n ++ s → n < 2 ^ 64 → 21 + length s ≤ room → length t < room
room_left m n t s e h k =
    omega (arith, decimal_some m, decimal_length 19 n (omega arith), length-append (decimal m) t, length-append (decimal n) s, ap length e)

-- what the proof of the function that writes a number cites
pub ruleset decimal_rules = (decimal_one, decimal_front, room_left)
