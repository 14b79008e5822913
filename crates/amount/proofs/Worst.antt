-- The lowest of a range: none of the range is below it, one of the range is it, and nothing else is so. Assumes nothing.
use mathlib.Core.Path.{◌≡◌, refl, sym, ap, ap₂, ◌∙◌}
use mathlib.Core.List.{List}
use mathlib.Core.Logic.{◌⊎◌, inl, inr, ⊎_elim}
use mathlib.Core.Bool.{cond}
use Prim.Native.Nat.{ℕ, zero, suc, ◌+◌, ◌-◌, ◌≤◌, ◌<◌}
use native.Mathlib.Numerals.{add-one}
use lib.ListN.{length, get_or, take}
use lib.Seq.{take_all}
use Rattle.std.specs.List.{fold}
use Rattle.std.proofs.lemmas.List.Sums.{fold_more}
use native.Mathlib.Omega.{arith}
use native.Mathlib.Decide.{ℕ_discrete}
use lib.IntN.{ℤ, pos}
use lib.Signed.{◌≤ℤ◌, ≤ℤ_refl}
use Rattle.paper.specs.Sums.{worse, lowest}
use Rattle.amount.proofs.Ints.{ints, by_lt_z}

-- the worse of two amounts is not above either, and is one of them
pub record Worse (a b m : ℤ) : Type 0 where
  pub left : m ≤ℤ a
  pub right : m ≤ℤ b
  pub one : (m ≡ a) ⊎ (m ≡ b)

pub worse_is : (a b : ℤ) → Worse a b (worse a b)
worse_is a b = by_lt_z (λ c. Worse a b (cond c b a)) b a
    (λ h. record { left = omega ints; right = ≤ℤ_refl b; one = inr refl })
    (λ h. record { left = ≤ℤ_refl a; right = h; one = inl refl })

-- z is the lowest of v a, .., v (a + n), and stands at a point of the range
pub record Lowest (v : ℕ → ℤ) (a n : ℕ) (z : ℤ) : Type 0 where
  pub below : (y : ℕ) → a ≤ y → y ≤ a + n → z ≤ℤ v y
  pub at : ℕ
  pub from : a ≤ at
  pub to : at ≤ a + n
  pub is : v at ≡ z

-- what holds in a range and at the next point holds in the range with that point
pub one_more : (P : ℕ → Type 0) (a n : ℕ) → ((y : ℕ) → a ≤ y → y ≤ a + n → P y) → P (a + suc n) → (y : ℕ) → a ≤ y → y ≤ a + suc n → P y
one_more P a n f p y h l = elim (ℕ_discrete y (a + suc n)) [ yes e ↦ rw e p | no e ↦ f y h (omega arith) ]

pub lowest_is : (v : ℕ → ℤ) (a n : ℕ) → Lowest v a n (lowest v a n)
unfolding lowest
lowest_is v a zero = record { below = λ y h l. let e : y ≡ a = omega arith in rw e (≤ℤ_refl (v a)); at = a; from = omega arith; to = omega arith; is = refl }
lowest_is v a (suc n) =
    let i : Lowest v a n (lowest v a n) = lowest_is v a n in
    let w : Worse (lowest v a n) (v (a + suc n)) (worse (lowest v a n) (v (a + suc n))) = worse_is (lowest v a n) (v (a + suc n)) in
    let b : (y : ℕ) → a ≤ y → y ≤ a + suc n → worse (lowest v a n) (v (a + suc n)) ≤ℤ v y =
    one_more (λ y. worse (lowest v a n) (v (a + suc n)) ≤ℤ v y) a n (λ y h l. omega (ints, w.left, i.below y h l)) w.right in
    ⊎_elim
    (λ e. record { below = b; at = i.at; from = i.from; to = omega arith; is = i.is ∙ sym e })
    (λ e. record { below = b; at = a + suc n; from = omega arith; to = omega arith; is = sym e })
    w.one

pub lowest_only : {v : ℕ → ℤ} {a n : ℕ} {z : ℤ} → Lowest v a n z → z ≡ lowest v a n
lowest_only {v} {a} {n} {z} j =
    let i : Lowest v a n (lowest v a n) = lowest_is v a n in
    omega (ints, j.below i.at i.from i.to, i.below j.at j.from j.to, i.is, j.is)

-- two ranges that agree entry by entry, and two of which one is nowhere above the other
pub lowest_cong : {v w : ℕ → ℤ} (a n : ℕ) → ((y : ℕ) → a ≤ y → y ≤ a + n → v y ≡ w y) → lowest v a n ≡ lowest w a n
unfolding lowest
lowest_cong a zero e = e a (omega arith) (omega arith)
lowest_cong a (suc n) e = ap₂ worse (lowest_cong a n (λ y h l. e y h (omega arith))) (e (a + suc n) (omega arith) (omega arith))

pub lowest_mono : {v w : ℕ → ℤ} (a n : ℕ) → ((y : ℕ) → a ≤ y → y ≤ a + n → v y ≤ℤ w y) → lowest v a n ≤ℤ lowest w a n
lowest_mono {v} {w} a n e =
    let i : Lowest v a n (lowest v a n) = lowest_is v a n in
    let j : Lowest w a n (lowest w a n) = lowest_is w a n in
    omega (ints, i.below j.at j.from j.to, e j.at j.from j.to, j.is)

-- the worst so far, entry by entry of a list, is the lowest of its entries
folded : (v : List ℤ) (n : ℕ) → n < length v → fold worse (get_or v 0 (pos 0)) (take (n + 1) v) ≡ lowest (λ y. get_or v y (pos 0)) 0 n
unfolding lowest
folded v zero h = fold_more worse (get_or v 0 (pos 0)) v 0 (pos 0) h ∙ ⊎_elim (λ e. e) (λ e. e) (worse_is (get_or v 0 (pos 0)) (get_or v 0 (pos 0))).one
folded v (suc n) h =
    let k : 0 + suc n ≡ suc n = omega arith in
    let more : fold worse (get_or v 0 (pos 0)) (take (suc n + 1) v) ≡ worse (fold worse (get_or v 0 (pos 0)) (take (suc n) v)) (get_or v (suc n) (pos 0)) =
    fold_more worse (get_or v 0 (pos 0)) v (suc n) (pos 0) h in
    more ∙ simp k (ap (λ z. worse z (get_or v (suc n) (pos 0))) (rw add-one at (folded v n (omega arith))))

pub fold_lowest : (v : List ℤ) → 0 < length v → fold worse (get_or v 0 (pos 0)) v ≡ lowest (λ y. get_or v y (pos 0)) 0 (length v - 1)
fold_lowest v h =
    let all : length v ≤ length v - 1 + 1 = omega arith in
    rw take_all at (folded v (length v - 1) (omega arith))
