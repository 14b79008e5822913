-- The lowest-numbered point of a range that has the range's lowest entry: what the definition finds, and how a scan
-- upward keeps it. Assumes nothing.
use mathlib.Core.Path.{◌≡◌, refl, sym}
use mathlib.Core.Logic.{⊎_elim}
use mathlib.Core.Bool.{Bool, true, false, cond}
use Prim.Native.Nat.{ℕ, zero, suc, ◌+◌, ◌≤◌, ◌<◌}
use native.Mathlib.Omega.{arith}
use native.Mathlib.Decide.{ℕ_discrete, dec_lt}
use lib.IntN.{ℤ}
use lib.Signed.{◌≤ℤ◌, ◌<ℤ◌, le_z}
use Rattle.paper.specs.Sums.{worse, lowest}
use Rattle.paper.specs.Windows.{first_at}
use Rattle.amount.proofs.Ints.{ints}
use Rattle.amount.proofs.Worst.{Lowest, lowest_is, Worse, worse_is}

-- to show P of a test's outcome, show it of both outcomes, each with what the test then says
le_z_cases : (P : Bool → Type 0) (a b : ℤ) → (a ≤ℤ b → P true) → (b <ℤ a → P false) → P (le_z a b)
le_z_cases P a b f g = go (le_z a b) refl
  where
    go : (c : Bool) → le_z a b ≡ c → P c
    go true e = f (omega ints)
    go false e = g (omega ints)

-- b is the lowest-numbered of the points a, .., a + n at which v is not above z
record First (v : ℕ → ℤ) (z : ℤ) (a n b : ℕ) : Type 0 where
  from : a ≤ b
  to : b ≤ a + n
  low : v b ≤ℤ z
  early : (y : ℕ) → a ≤ y → y < b → z <ℤ v y

first_is : (v : ℕ → ℤ) (z : ℤ) (a n y : ℕ) → a ≤ y → y ≤ a + n → v y ≤ℤ z → First v z a n (first_at v z a n)
unfolding first_at
first_is v z a zero y h l e =
    let s : y ≡ a = omega arith in
    record { from = omega arith; to = omega arith; low = rw s at e; early = λ w g m. absurd (omega arith) }
first_is v z a (suc n) y h l e = le_z_cases (λ c. First v z a (suc n) (cond c a (first_at v z (a + 1) n))) (v a) z
    (λ g. record { from = omega arith; to = omega arith; low = g; early = λ w k m. absurd (omega arith) })
    (λ g.
    let later : a + 1 ≤ y = elim (ℕ_discrete y a) [ yes s ↦ absurd (omega (ints, rw s at e)) | no s ↦ omega arith ] in
    let i : First v z (a + 1) n (first_at v z (a + 1) n) = first_is v z (a + 1) n y later (omega arith) e in
    record {
      from = omega (arith, i.from);
      to = omega (arith, i.to);
      low = i.low;
      early = λ w k m. elim (ℕ_discrete w a) [ yes s ↦ rw s g | no s ↦ i.early w (omega arith) m ];
    })

-- b is the lowest-numbered of the points a, .., a + n with the lowest entry there
pub record FirstLowest (v : ℕ → ℤ) (a n b : ℕ) : Type 0 where
  pub from : a ≤ b
  pub to : b ≤ a + n
  pub is : v b ≡ lowest v a n
  pub early : (y : ℕ) → a ≤ y → y < b → lowest v a n <ℤ v y

pub first_lowest_is : (v : ℕ → ℤ) (a n : ℕ) → FirstLowest v a n (first_at v (lowest v a n) a n)
first_lowest_is v a n =
    let z : ℤ = lowest v a n in
    let l : Lowest v a n z = lowest_is v a n in
    let i : First v z a n (first_at v z a n) = first_is v z a n l.at l.from l.to (omega (ints, l.is)) in
    record { from = i.from; to = i.to; is = omega (ints, i.low, l.below (first_at v z a n) i.from i.to); early = i.early }

pub first_lowest_only : {v : ℕ → ℤ} {a n b : ℕ} → FirstLowest v a n b → b ≡ first_at v (lowest v a n) a n
first_lowest_only {v} {a} {n} {b} j =
    let c : ℕ = first_at v (lowest v a n) a n in
    let i : FirstLowest v a n c = first_lowest_is v a n in
    elim (dec_lt b c) [
      | yes l ↦ absurd (omega (ints, i.early b j.from l, j.is))
      | no l ↦ elim (ℕ_discrete b c) [
        | yes e ↦ e
        | no e ↦ absurd (omega (ints, j.early c i.from (omega arith), i.is))
      ]
    ]

-- a range of one point; then one point more, which is lower than all before it, or is not
pub first_one : (v : ℕ → ℤ) (a : ℕ) → FirstLowest v a 0 a
unfolding lowest
first_one v a = record { from = omega arith; to = omega arith; is = refl; early = λ y h l. absurd (omega arith) }

module _ (v : ℕ → ℤ) (a n b : ℕ) (i : FirstLowest v a n b) where
  abbrev next : ℤ
  next = v (a + suc n)

  either : Worse (lowest v a n) next (worse (lowest v a n) next)
  either = worse_is (lowest v a n) next

  pub first_next : next <ℤ v b → FirstLowest v a (suc n) (a + suc n)
  unfolding lowest
  first_next h = record {
    from = omega arith;
    to = omega arith;
    is = ⊎_elim (λ e. omega (ints, e, either.right, i.is)) sym either.one;
    early = λ y k l. omega (ints, either.right, i.is, (lowest_is v a n).below y k (omega arith));
  }

  pub first_kept : v b ≤ℤ next → FirstLowest v a (suc n) b
  unfolding lowest
  first_kept h = record {
    from = i.from;
    to = omega (arith, i.to);
    is = ⊎_elim (λ e. omega (ints, e, i.is)) (λ e. omega (ints, e, either.left, i.is)) either.one;
    early = λ y k l. omega (ints, either.left, i.early y k l);
  }
