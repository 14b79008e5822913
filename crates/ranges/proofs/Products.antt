-- A product by its number; at it the paper's tests are those of the product's own limits, at any other none passes. Assumes nothing.
use Rattle.std.specs.Prelude.{Ok, Err}
use mathlib.Core.Path.{◌≡◌, refl}
use mathlib.Core.Bool.{Bool, true, false, ◌&&◌}
use Prim.Native.Nat.{ℕ}
use native.Mathlib.Decide.{ℕ_discrete}
use native.Mathlib.Omega.{arith}
use borrow.Author.Tests.{ne_eqb, le-leb, lt-leb}
use lib.Dec.{eqb, leb}
use Rattle.paper.specs.declared.Instrument.{Instrument}
use Rattle.paper.specs.declared.Position.{Position}
use Rattle.paper.specs.declared.Fault.{Fault}
use Rattle.paper.specs.declared.Fault.TheVariants.{Range}
use Rattle.paper.specs.declared.Product.{Product}
use Rattle.paper.specs.declared.Product.TheVariants.{Fra, Future, Bond}
use Rattle.paper.specs.Refusals.{product_of, instrument_fits, position_fits}
use Rattle.ranges.specs.Limits.{fra, future, bond, limits_of, instrument_holds, position_holds}

-- a product's number
abbrev pub number_of : Product → ℕ
number_of Fra = 1
number_of Future = 2
number_of Bond = 3

-- what a number is, of the three products and of none
pub data Named (n : ℕ) : Type 0 where
  fra_named : n ≡ 1 → Named n
  future_named : n ≡ 2 → Named n
  bond_named : n ≡ 3 → Named n
  not_named : (n ≡ 1 → ⊥) → (n ≡ 2 → ⊥) → (n ≡ 3 → ⊥) → Named n

pub named : (n : ℕ) → Named n
named n = elim (ℕ_discrete n 1) [
  | yes e ↦ fra_named e
  | no e ↦ elim (ℕ_discrete n 2) [
    | yes f ↦ future_named f
    | no f ↦ elim (ℕ_discrete n 3) [
      | yes g ↦ bond_named g
      | no g ↦ not_named e f g
    ]
  ]
]

pub product_is : (n : ℕ) (p : Product) → Ok p ≡ product_of n → n ≡ number_of p
product_is n p h = by (named n)
  where
    by : Named n → n ≡ number_of p
    by (fra_named e) = let f : Fra ≡ p = let k = rw e at h in cc in rw (← f) e
    by (future_named e) = let f : Future ≡ p = let k = rw e at h in cc in rw (← f) e
    by (bond_named e) = let f : Bond ≡ p = let k = rw e at h in cc in rw (← f) e
    by (not_named e f g) = absurd (let k = simp (ne_eqb n 1 e, ne_eqb n 2 f, ne_eqb n 3 g) at h in let z : ◌≡◌ {A = ℕ} 0 1 = cc in omega arith)

pub record NoProduct (n : ℕ) (f : Fault) : Type 0 where
  pub fault : f ≡ Range
  pub fra : n ≡ 1 → ⊥
  pub future : n ≡ 2 → ⊥
  pub bond : n ≡ 3 → ⊥

pub no_product : (n : ℕ) (f : Fault) → Err f ≡ product_of n → NoProduct n f
no_product n f h = by (named n)
  where
    by : Named n → NoProduct n f
    by (fra_named e) = absurd (let k = rw e at h in let z : ◌≡◌ {A = ℕ} 0 1 = cc in omega arith)
    by (future_named e) = absurd (let k = rw e at h in let z : ◌≡◌ {A = ℕ} 0 1 = cc in omega arith)
    by (bond_named e) = absurd (let k = rw e at h in let z : ◌≡◌ {A = ℕ} 0 1 = cc in omega arith)
    by (not_named e g i) = let k = simp (ne_eqb n 1 e, ne_eqb n 2 g, ne_eqb n 3 i) at h in record { fault = cc; fra = e; future = g; bond = i }

-- no days: from 0 to 0
no_days : (days : ℕ) → eqb days 0 ≡ (leb 0 days && leb days 0)
no_days days = elim (ℕ_discrete days 0) [
  | yes e ↦ rw e
  | no e ↦ simp (ne_eqb days 0 e, le-leb 0 days (omega arith), lt-leb days 0 (omega arith))
]

module _ (i : Instrument) where
  pub fra_instrument : i.product ≡ 1 → instrument_fits i ≡ instrument_holds i fra
  unfolding instrument_fits
  fra_instrument e = rw e

  pub future_instrument : i.product ≡ 2 → instrument_fits i ≡ instrument_holds i future
  unfolding instrument_fits
  future_instrument e = rw (e, no_days i.days)

  pub bond_instrument : i.product ≡ 3 → instrument_fits i ≡ instrument_holds i bond
  unfolding instrument_fits
  bond_instrument e = rw (e, no_days i.days)

  pub no_instrument : (i.product ≡ 1 → ⊥) → (i.product ≡ 2 → ⊥) → (i.product ≡ 3 → ⊥) → instrument_fits i ≡ false
  unfolding instrument_fits
  no_instrument h k l = simp (ne_eqb i.product 1 h, ne_eqb i.product 2 k, ne_eqb i.product 3 l)

and_false : (t : Bool) → (t && false) ≡ false
and_false true = refl
and_false false = refl

module _ (p : Position) (product : ℕ) where
  pub fra_position : product ≡ 1 → position_fits p product ≡ position_holds p fra
  unfolding position_fits
  fra_position e = rw e

  pub future_position : product ≡ 2 → position_fits p product ≡ position_holds p future
  unfolding position_fits
  future_position e = rw e

  pub bond_position : product ≡ 3 → position_fits p product ≡ position_holds p bond
  unfolding position_fits
  bond_position e = rw e

  pub no_position : (product ≡ 1 → ⊥) → (product ≡ 2 → ⊥) → (product ≡ 3 → ⊥) → position_fits p product ≡ false
  unfolding position_fits
  no_position h k l = simp (ne_eqb product 1 h, ne_eqb product 2 k, ne_eqb product 3 l, and_false)

-- so a field is held to its product's limits
pub instrument_held : (i : Instrument) (p : Product) → i.product ≡ number_of p → instrument_fits i ≡ instrument_holds i (limits_of p)
instrument_held i Fra e = fra_instrument i e
instrument_held i Future e = future_instrument i e
instrument_held i Bond e = bond_instrument i e

pub position_held : (q : Position) (n : ℕ) (p : Product) → n ≡ number_of p → position_fits q n ≡ position_holds q (limits_of p)
position_held q n Fra e = fra_position q n e
position_held q n Future e = future_position q n e
position_held q n Bond e = bond_position q n e

pub instrument_of_none : (i : Instrument) (f : Fault) → NoProduct i.product f → instrument_fits i ≡ false
instrument_of_none i f h = no_instrument i h.fra h.future h.bond

pub position_of_none : (q : Position) (n : ℕ) (f : Fault) → NoProduct n f → position_fits q n ≡ false
position_of_none q n f h = no_position q n h.fra h.future h.bond
