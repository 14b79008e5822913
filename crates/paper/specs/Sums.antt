-- Words that the paper takes for granted: a sum, a list, a repetition, a lowest entry.
use Rattle.std.specs.Prelude.{Bool, cond, List, [], ◌++◌, ◌∷◌, ℕ, zero, suc, ◌+◌, ℤ, pos, ◌+ℤ◌}
use Rattle.std.specs.Int.Signed.{lt_z}

-- f 0 + f 1 + .. + f (n - 1)
unfoldable pub sum : ℕ → (ℕ → ℤ) → ℤ
sum zero f = pos 0
sum (suc n) f = sum n f +ℤ f n

-- z where the test passes, else 0
abbrev pub only : Bool → ℤ → ℤ
only test z = cond test z (pos 0)

-- the list of f 0, f 1, .., f (n - 1)
unfoldable pub listed {ℓ} : {A : Type ℓ} → ℕ → (ℕ → A) → List A
listed zero f = []
listed (suc n) f = listed n f ++ (f n ∷ [])

-- F, n times over, from z
unfoldable pub rounds {ℓ} : {A : Type ℓ} → ℕ → (A → A) → A → A
rounds zero F z = z
rounds (suc n) F z = F (rounds n F z)

-- "A worse amount is a lower one": the worse of two
abbrev pub worse : ℤ → ℤ → ℤ
worse a b = cond (lt_z b a) b a

-- the lowest of v a, v (a + 1), .., v (a + n)
unfoldable pub lowest : (ℕ → ℤ) → ℕ → ℕ → ℤ
lowest v a zero = v a
lowest v a (suc n) = worse (lowest v a n) (v (a + suc n))
