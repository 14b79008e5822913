-- What is written reads back as the same amount, for every i64. Assumes nothing.
use mathlib.Core.Path.{◌≡◌, refl, ap, ◌∙◌}
use mathlib.Core.List.{List, [], ◌∷◌, ◌++◌, append_assoc}
use Prim.Native.Nat.{ℕ, zero, suc, ◌+◌, ◌-◌, ◌*◌, ◌/◌, ◌≤◌, ◌<◌}
use native.Mathlib.Omega.{arith}
use native.Mathlib.Decide.{dec_lt}
use borrow.Author.Tests.{eq-eqb, le-leb, lt-ltb}
use lib.IntN.{ℤ, pos, negsuc}
use lib.ListN.{length, get_or, take, drop, length-append}
use lib.Seq.{take_at, drop_at, get_or_at}
use lib.Signed.{mag}
use Rattle.std.specs.Prelude.{Option, Some, None, option_and_then}
use Rattle.paper.specs.Listing.{digit, decimal, kroner}
use Rattle.kroner.specs.Reading.{most, further, number_from, size_of, signed, read_of}
use Rattle.text.proofs.Decimal.{decimal_one, decimal_more, decimal_some}
use Rattle.kroner.proofs.Signs.{unsigned}
use Rattle.kroner.proofs.Readings.{and_then_some, two_digits, read_gain}

-- digits after digits
and_then_assoc : {A B C : Type 0} (f : B → Option C) (g : A → Option B) (o : Option A) → option_and_then (λ x. option_and_then f (g x)) o ≡ option_and_then f (option_and_then g o)
and_then_assoc f g None = refl
and_then_assoc f g (Some x) = refl

number_more : (n : ℕ) (a b : List ℕ) → number_from n (a ++ b) ≡ option_and_then (λ m. number_from m b) (number_from n a)
unfolding number_from
number_more n [] b = refl
number_more n (c ∷ a) b =
    ap (λ (f : ℕ → Option ℕ). option_and_then f (further n c)) (λ i m. number_more m a b i)
    ∙ and_then_assoc (λ m. number_from m b) (λ m. number_from m a) (further n c)

further_digit : (n : ℕ) → n ≤ most → further (n / 10) (digit n) ≡ Some n
further_digit n h =
    let low : 48 ≤ digit n = omega arith in
    let high : digit n ≤ 57 = omega arith in
    let e : 10 * (n / 10) + (digit n - 48) ≡ n = omega arith in
    simp (le-leb 48 (digit n) low, le-leb (digit n) 57 high, e, le-leb n most h)

number_digit : (m n : ℕ) → number_from m (digit n ∷ []) ≡ further m (digit n)
unfolding number_from
number_digit m n = and_then_some (further m (digit n))

small : (n : ℕ) → n < 10 → n ≤ most → further 0 (digit n) ≡ Some n
small n k l = let z : n / 10 ≡ 0 = omega arith in rw z at (further_digit n l)

number_decimal : (f n : ℕ) → n ≤ f → n ≤ most → number_from 0 (decimal n) ≡ Some n
number_decimal zero n h l = rw (decimal_one n (omega arith)) (number_digit 0 n ∙ small n (omega arith) l)
number_decimal (suc f) n h l = elim (dec_lt n 10) [
  | yes k ↦ rw (decimal_one n k) (number_digit 0 n ∙ small n k l)
  | no k ↦ rw (decimal_more n (omega arith))
      (number_more 0 (decimal (n / 10)) (digit n ∷ [])
      ∙ ap (option_and_then (λ m. number_from m (digit n ∷ []))) (number_decimal f (n / 10) (omega arith) (omega arith))
      ∙ number_digit (n / 10) n
      ∙ further_digit n l)
]

-- kroner, then the two digits of øre
number_ore : (n : ℕ) → n ≤ most → number_from (n / 100) (digit (n / 10) ∷ digit n ∷ []) ≡ Some n
number_ore n h =
    let e : n / 10 / 10 ≡ n / 100 = omega arith in
    two_digits (n / 100) (digit (n / 10)) (digit n)
    ∙ ap (option_and_then (λ m. further m (digit n))) (rw e at (further_digit (n / 10) (omega arith)))
    ∙ further_digit n h

-- a text of digits, a point and two digits
module _ (D : List ℕ) (a b : ℕ) (some : 1 ≤ length D) where
  length_is : length (D ++ (46 ∷ a ∷ b ∷ [])) ≡ length D + 3
  length_is = length-append D (46 ∷ a ∷ b ∷ [])

  point : get_or (D ++ (46 ∷ a ∷ b ∷ [])) (length (D ++ (46 ∷ a ∷ b ∷ [])) - 3) 0 ≡ 46
  point = get_or_at D 46 (a ∷ b ∷ []) 0 (length (D ++ (46 ∷ a ∷ b ∷ [])) - 3) (omega (arith, length_is))

  before_point : take (length (D ++ (46 ∷ a ∷ b ∷ [])) - 3) (D ++ (46 ∷ a ∷ b ∷ [])) ≡ D
  before_point = take_at D (46 ∷ a ∷ b ∷ []) (length (D ++ (46 ∷ a ∷ b ∷ [])) - 3) (omega (arith, length_is))

  after_point : drop (length (D ++ (46 ∷ a ∷ b ∷ [])) - 2) (D ++ (46 ∷ a ∷ b ∷ [])) ≡ a ∷ b ∷ []
  after_point =
      let l : length (D ++ (46 ∷ [])) ≡ length D + 1 = length-append D (46 ∷ []) in
      rw (← append_assoc D (46 ∷ []) (a ∷ b ∷ []))
      (drop_at (D ++ (46 ∷ [])) (a ∷ b ∷ []) (length ((D ++ (46 ∷ [])) ++ (a ∷ b ∷ [])) - 2) (omega (arith, l, length-append (D ++ (46 ∷ [])) (a ∷ b ∷ []))))

  pub size_parts : size_of (D ++ (46 ∷ a ∷ b ∷ [])) ≡ option_and_then (λ n. number_from n (a ∷ b ∷ [])) (number_from 0 D)
  unfolding size_of
  size_parts =
      rw (le-leb 4 (length (D ++ (46 ∷ a ∷ b ∷ []))) (omega (arith, length_is)), eq-eqb (get_or (D ++ (46 ∷ a ∷ b ∷ [])) (length (D ++ (46 ∷ a ∷ b ∷ [])) - 3) 0) 46 point, before_point, after_point)

sizes : (n : ℕ) → n ≤ most → size_of (unsigned n) ≡ Some n
sizes n h =
    size_parts (decimal (n / 100)) (digit (n / 10)) (digit n) (decimal_some (n / 100))
    ∙ ap (option_and_then (λ m. number_from m (digit (n / 10) ∷ digit n ∷ []))) (number_decimal (n / 100) (n / 100) (omega arith) (omega arith))
    ∙ number_ore n h

-- a number starts with a digit, and so with no sign
decimal_starts : (f n : ℕ) (t : List ℕ) → n ≤ f → 48 ≤ get_or (decimal n ++ t) 0 0
decimal_starts zero n t h = rw (decimal_one n (omega arith)) (omega arith)
decimal_starts (suc f) n t h = elim (dec_lt n 10) [
  | yes k ↦ rw (decimal_one n k) (omega arith)
  | no k ↦ rw (decimal_more n (omega arith), append_assoc) (decimal_starts f (n / 10) ((digit n ∷ []) ++ t) (omega arith))
]

no_sign : (n : ℕ) → get_or (unsigned n) 0 0 ≡ 45 → ⊥
no_sign n e = omega (arith, decimal_starts (n / 100) (n / 100) (46 ∷ digit (n / 10) ∷ digit n ∷ []) (omega arith))

-- every amount that an i64 holds reads back from its text
pub read_back : (z : ℤ) → mag z < most → read_of (kroner z) ≡ Some z
unfolding kroner read_of
read_back (pos n) h =
    read_gain (unsigned n) (no_sign n)
    ∙ ap (option_and_then (λ size. signed size 0)) (sizes n (omega arith))
    ∙ rw (lt-ltb n most h)
read_back (negsuc n) h = ap (option_and_then (λ size. signed size 1)) (sizes (suc n) h) ∙ rw (le-leb (suc n) most h)
