-- A list that is filled from the front, and the list of a function's values. Assumes nothing.
use mathlib.Core.Path.{◌≡◌, refl, ◌∙◌}
use mathlib.Core.List.{List, [], ◌∷◌, ◌++◌, append-nil}
use Prim.Native.Nat.{ℕ, zero, suc, ◌+◌, ◌*◌, ◌≤◌, ◌<◌}
use native.Mathlib.Numerals.{add-one}
use native.Mathlib.Nat.{suc-mul, mul-le-mul_right}
use native.Mathlib.Decide.{dec_lt}
use native.Mathlib.Omega.{arith}
use lib.ListN.{length, get_or, set, take, drop, length-append, length-drop, drop_of_length-le, get_or-append}
use lib.Seq.{length-take-le, drop-cons, get_or_at, set_at, take-suc, take_all, drop_at, append_snoc}
use Rattle.paper.specs.Sums.{listed}

-- `full` up to i, and `start` from there on
abbrev pub filled : {A : Type 0} → List A → List A → ℕ → List A
filled full start i = take i full ++ drop i start

module _ {A : Type 0} (full start : List A) (same : length full ≡ length start) where
  pub filled_length : (i : ℕ) → i ≤ length start → length (filled full start i) ≡ length start
  filled_length i h =
      let e : length (take i full) ≡ i = length-take-le i full (omega arith) in
      simp (length-append, length-drop, e) (omega arith)

  pub filled_at : (i : ℕ) (d : A) → i < length start → get_or (filled full start i) i d ≡ get_or start i d
  filled_at i d h =
      rw (drop-cons start i d h) (get_or_at (take i full) (get_or start i d) (drop (suc i) start) d i (length-take-le i full (omega arith)))

  pub filled_set : (i : ℕ) (d v : A) → i < length start → v ≡ get_or full i d → set (filled full start i) i v ≡ filled full start (i + 1)
  filled_set i d v h e =
      let k : i < length full = omega arith in
      rw (e, add-one, drop-cons start i d h, take-suc full i d k, append_snoc)
      (set_at (take i full) (get_or start i d) (drop (suc i) start) (get_or full i d) i (length-take-le i full (omega arith)))

  pub filled_all : (n : ℕ) → length start ≤ n → filled full start n ≡ full
  filled_all n h = rw (take_all n full (omega arith), drop_of_length-le start h, append-nil)

  pub filled_rest : (i : ℕ) → i ≤ length start → drop i (filled full start i) ≡ drop i start
  filled_rest i h = drop_at (take i full) (drop i start) i (length-take-le i full (omega arith))

-- row k of n rows of p entries ends within them
pub row_end : (k n p : ℕ) → k < n → k * p + p ≤ n * p
row_end k n p h = rw suc-mul at (mul-le-mul_right p h)

pub listed_length : {A : Type 0} (n : ℕ) (f : ℕ → A) → length (listed n f) ≡ n
unfolding listed
listed_length zero f = refl
listed_length (suc n) f = rw (length-append, listed_length n f) (omega arith)

pub listed_at : {A : Type 0} (n k : ℕ) (f : ℕ → A) (d : A) → k < n → get_or (listed n f) k d ≡ f k
unfolding listed
listed_at zero k f d h = absurd (omega arith)
listed_at (suc n) k f d h = elim (dec_lt k n) [
  | yes l ↦ get_or-append (listed n f) (f n ∷ []) d k (rw (listed_length n f) l) ∙ listed_at n k f d l
  | no l ↦ let e : k ≡ n = omega arith in rw e (get_or_at (listed n f) (f n) [] d n (listed_length n f))
]
