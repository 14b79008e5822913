-- Laws of finite sums: congruence, monotony, addition, swap, picking one index; and of a function that is defined by
-- rounds. Assumes nothing.
use mathlib.Core.Path.{◌≡◌, refl, sym, ap₂, ◌∙◌}
use Prim.Native.Nat.{ℕ, zero, suc, ◌≤◌, ◌<◌}
use native.Mathlib.Omega.{arith}
use native.Mathlib.Decide.{ℕ_discrete}
use lib.Dec.{eqb}
use borrow.Author.Tests.{eq-eqb, ne_eqb}
use lib.IntN.{ℤ, pos, ◌+ℤ◌, +ℤ_idl, +ℤ_idr}
use lib.Signed.{◌≤ℤ◌, ≤ℤ_refl}
use Rattle.paper.specs.Sums.{sum, only, rounds}
use Rattle.amount.proofs.Ints.{ints}

pub sum_cong : (n : ℕ) {f g : ℕ → ℤ} → ((k : ℕ) → k < n → f k ≡ g k) → sum n f ≡ sum n g
unfolding sum
sum_cong zero e = refl
sum_cong (suc n) e = ap₂ ◌+ℤ◌ (sum_cong n (λ k h. e k (omega arith))) (e n (omega arith))

pub sum_mono : (n : ℕ) {f g : ℕ → ℤ} → ((k : ℕ) → k < n → f k ≤ℤ g k) → sum n f ≤ℤ sum n g
unfolding sum
sum_mono zero e = ≤ℤ_refl (pos 0)
sum_mono (suc n) {f} {g} e = omega (ints, sum_mono n {f = f} {g = g} (λ k h. e k (omega arith)), e n (omega arith))

pub sum_add : (n : ℕ) (f g : ℕ → ℤ) → sum n (λ k. f k +ℤ g k) ≡ sum n f +ℤ sum n g
unfolding sum
sum_add zero f g = refl
sum_add (suc n) f g = rw (sum_add n f g) (omega ints)

pub sum_zero : (n : ℕ) → sum n (λ k. pos 0) ≡ pos 0
unfolding sum
sum_zero zero = refl
sum_zero (suc n) = rw (sum_zero n)

pub sum_swap : (n m : ℕ) (f : ℕ → ℕ → ℤ) → sum n (λ a. sum m (λ b. f a b)) ≡ sum m (λ b. sum n (λ a. f a b))
unfolding sum
sum_swap zero m f = sym (sum_zero m)
sum_swap (suc n) m f = rw (sum_swap n m f) (sym (sum_add m (λ b. sum n (λ a. f a b)) (f n)))

-- a sum in which a test leaves one index, or none
pub sum_none : (n j : ℕ) (f : ℕ → ℤ) → n ≤ j → sum n (λ k. only (eqb j k) (f k)) ≡ pos 0
sum_none n j f h = sum_cong n (λ k l. rw (ne_eqb j k (omega arith))) ∙ sum_zero n

pub sum_one : (n j : ℕ) (f : ℕ → ℤ) → j < n → sum n (λ k. only (eqb j k) (f k)) ≡ f j
unfolding sum
sum_one zero j f h = absurd (omega arith)
sum_one (suc n) j f h = elim (ℕ_discrete j n) [
  | yes e ↦ rw (eq-eqb j n e, sum_none n j f (omega arith), e) (+ℤ_idl (f n))
  | no e ↦ rw (ne_eqb j n e, sum_one n j f (omega arith)) (+ℤ_idr (f j))
]

-- F f k depends only on what f is at smaller measures: so, after as many rounds as the measures go, F changes nothing
module _ {A : Type 0} (C : ℕ) (μ : ℕ → ℕ) (F : (ℕ → A) → ℕ → A) (z : ℕ → A)
    (local : (f g : ℕ → A) (k : ℕ) → k < C → ((j : ℕ) → j < C → μ j < μ k → f j ≡ g j) → F f k ≡ F g k) where
  same_later : (n m k : ℕ) → k < C → μ k < n → μ k < m → rounds n F z k ≡ rounds m F z k
  unfolding rounds
  same_later zero m k h a b = absurd (omega arith)
  same_later (suc n) zero k h a b = absurd (omega arith)
  same_later (suc n) (suc m) k h a b = local (rounds n F z) (rounds m F z) k h (λ j l d. same_later n m j l (omega arith) (omega arith))

  pub settled : (k : ℕ) → k < C → μ k < C → rounds C F z k ≡ F (rounds C F z) k
  unfolding rounds
  settled k h b = same_later C (suc C) k h b (omega arith)
