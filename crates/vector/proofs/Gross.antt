-- What the positions hold of each instrument, position by position. Bought and sold together bound the net, and those of
-- all instruments are no more than the positions' quantities. Assumes nothing.
use mathlib.Core.Path.{◌≡◌, refl, ◌∙◌}
use mathlib.Core.Bool.{Bool, true, false, cond}
use Prim.Native.Nat.{ℕ, zero, suc, ◌+◌, ◌*◌, ◌≤◌, ◌<◌}
use native.Mathlib.Nat.{suc-mul}
use native.Mathlib.Numerals.{add-one}
use native.Mathlib.Decide.{ℕ_discrete, dec_lt}
use native.Mathlib.Omega.{arith}
use borrow.Author.Tests.{eq-eqb, ne_eqb}
use lib.Dec.{eqb}
use lib.IntN.{ℤ, pos, neg_ℤ, nat_abs, ◌+ℤ◌, +ℤ_idr}
use lib.Signed.{◌≤ℤ◌, ≤ℤ_refl}
use Rattle.paper.specs.declared.Position.{Position}
use Rattle.paper.specs.Sums.{sum, only}
use Rattle.paper.specs.Records.{bought}
use Rattle.paper.specs.Products.{Positions, net_of, gross_of, held_of}
use Rattle.amount.proofs.Ints.{ints, plus, abs}
use Rattle.amount.proofs.Sums.{sum_mono, sum_swap, sum_one, sum_none}
use Rattle.vector.specs.Holdings.{held_with}
use Rattle.vector.proofs.Signs.{size_plus}
use Rattle.vector.proofs.Bounds.{side_size}

-- a sum is no larger than the sum of bounds on the sizes
pub sum_size : (n : ℕ) (f g : ℕ → ℤ) → ((k : ℕ) → k < n → pos (nat_abs (f k)) ≤ℤ g k) → pos (nat_abs (sum n f)) ≤ℤ sum n g
unfolding sum
sum_size zero f g e = ≤ℤ_refl (pos 0)
sum_size (suc n) f g e =
    omega (ints, sum_size n f g (λ k h. e k (omega arith)), e n (omega arith), size_plus (sum n f) (f n), plus (sum n g) (g n))

-- and no larger than so many times one bound
pub sum_most : (n c : ℕ) (f : ℕ → ℤ) → ((k : ℕ) → k < n → f k ≤ℤ pos c) → sum n f ≤ℤ pos (n * c)
unfolding sum
sum_most zero c f e = omega ints
sum_most (suc n) c f e = omega (ints, sum_most n c f (λ k h. e k (omega arith)), e n (omega arith), plus (sum n f) (f n), suc-mul n c)

-- one more of a sum, on top of what there is
pub sum_next : (z : ℤ) (n : ℕ) (f : ℕ → ℤ) → (z +ℤ sum n f) +ℤ f n ≡ z +ℤ sum (n + 1) f
unfolding sum
sum_next z n f =
    rw add-one
    (omega (ints, plus (z +ℤ sum n f) (f n), plus z (sum n f), plus z (sum n f +ℤ f n), plus (sum n f) (f n)))

pub net_gross : (ps : Positions) (i : ℕ) → pos (nat_abs (net_of ps i)) ≤ℤ gross_of ps i
unfolding net_of gross_of
net_gross ps i = sum_size ps.many _ _ (λ k h. each (eqb (ps.each k).instrument i) (bought (ps.each k)) (ps.each k).quantity)
  where
    each : (named buys : Bool) (q : ℕ) → pos (nat_abs (only named (cond buys (pos q) (neg_ℤ (pos q))))) ≤ℤ only named (pos q)
    each true buys q = omega (ints, side_size buys (pos q))
    each false buys q = ≤ℤ_refl (pos 0)

pub net_size : (ps : Positions) (i : ℕ) → nat_abs (net_of ps i) ≤ nat_abs (gross_of ps i)
net_size ps i = omega (ints, net_gross ps i, abs (gross_of ps i))

-- the quantities of all positions together
abbrev pub quantities : Positions → ℤ
quantities ps = sum ps.many (λ k. pos (ps.each k).quantity)

pub gross_total : (ps : Positions) (n : ℕ) → sum n (gross_of ps) ≤ℤ quantities ps
unfolding gross_of
gross_total ps n =
    rw (sum_swap n ps.many (λ i k. only (eqb (ps.each k).instrument i) (pos (ps.each k).quantity)))
    (sum_mono ps.many (λ k h. once (ps.each k).instrument (pos (ps.each k).quantity) (omega ints)))
  where
    once : (j : ℕ) (z : ℤ) → pos 0 ≤ℤ z → sum n (λ i. only (eqb j i) z) ≤ℤ z
    once j z h = elim (dec_lt j n) [
      | yes l ↦ rw (sum_one n j (λ i. z) l) (≤ℤ_refl z)
      | no l ↦ rw (sum_none n j (λ i. z) (omega arith)) h
    ]

-- what is held of one instrument, of positions with at most c contracts each
pub net_most :
    (ps : Positions) (i c : ℕ) → ((k : ℕ) → k < ps.many → (ps.each k).quantity ≤ c) →
    nat_abs (net_of ps i) ≤ ps.many * c
unfolding gross_of
net_most ps i c h =
    let g : ℕ → ℤ = λ k. only (eqb (ps.each k).instrument i) (pos (ps.each k).quantity) in
    let most : (k : ℕ) → k < ps.many → g k ≤ℤ pos c =
    λ k l. each (eqb (ps.each k).instrument i) (ps.each k).quantity (h k l) in
    omega (ints, net_gross ps i, sum_most ps.many c g most)
  where
    each : (named : Bool) (q : ℕ) → q ≤ c → only named (pos q) ≤ℤ pos c
    each true q h = omega ints
    each false q h = omega ints

-- the first n positions; what they hold with one more, of this instrument or of another
abbrev pub first_of : (ℕ → Position) → ℕ → Positions
first_of each n = record { many = n; each = each }

module _ (each : ℕ → Position) (n i : ℕ) where
  pub held_none : held_of (first_of each 0) i ≡ record { net = pos 0; gross = pos 0 }
  unfolding net_of gross_of sum
  held_none = refl

  pub held_with_lem : (each n).instrument ≡ i → held_of (first_of each (suc n)) i ≡ held_with (held_of (first_of each n) i) (each n)
  unfolding net_of gross_of sum
  held_with_lem e = rw (eq-eqb (each n).instrument i e)

  pub held_past : ((each n).instrument ≡ i → ⊥) → held_of (first_of each (suc n)) i ≡ held_of (first_of each n) i
  unfolding net_of gross_of sum
  held_past e = rw (ne_eqb (each n).instrument i e) (simp +ℤ_idr)

  pub held_next :
      held_of (first_of each (suc n)) i
      ≡ cond (eqb (each n).instrument i) (held_with (held_of (first_of each n) i) (each n)) (held_of (first_of each n) i)
  held_next = elim (ℕ_discrete (each n).instrument i) [
    | yes e ↦ held_with_lem e ∙ rw (eq-eqb (each n).instrument i e)
    | no e ↦ held_past e ∙ rw (ne_eqb (each n).instrument i e)
  ]
