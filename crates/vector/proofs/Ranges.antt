-- What the tests of an instrument's and of a position's fields say, as sizes. Assumes nothing.
use mathlib.Core.Path.{◌≡◌, refl, sym, ◌∙◌}
use mathlib.Core.Bool.{true}
use Prim.Native.Nat.{ℕ, ◌≤◌}
use native.Mathlib.Omega.{arith}
use lib.IntN.{ℤ, pos, negsuc, nat_abs}
use Rattle.paper.specs.declared.Instrument.{Instrument}
use Rattle.paper.specs.declared.Position.{Position}
use Rattle.paper.specs.Refusals.{within, instrument_fits, position_fits, price_fits}
use Rattle.amount.proofs.Ints.{ints}
use Rattle.ranges.proofs.Bounds.{Between, between, InRanges, ByProduct, by_product_lem, good_position}

-- z is a number from 0 to n
pub record UpTo (n : ℕ) (z : ℤ) : Type 0 where
  pub is : z ≡ pos (nat_abs z)
  pub most : nat_abs z ≤ n

pub up_to : {n : ℕ} {z : ℤ} → Between (pos 0) (pos n) z → UpTo n z
up_to {z = pos k} h = record { is = refl; most = omega (ints, h.high) }
up_to {z = negsuc k} h = absurd (omega (ints, h.low))

pub wider : {n k : ℕ} {z : ℤ} → n ≤ k → UpTo n z → UpTo k z
wider h u = record { is = u.is; most = omega arith }

-- the fields of an instrument, each from 0 to a limit: D days, a fixing up to F, Par up to P, Adj up to A
pub record Ranges (x : Instrument) (D F P A : ℕ) : Type 0 where
  pub days : x.days ≤ D
  pub today : UpTo F x.today
  pub before : UpTo F x.before
  pub par : UpTo P x.par
  pub adj : UpTo A x.adj

-- the limits of each product
pub data Fit (x : Instrument) : Type 0 where
  fra : x.product ≡ 1 → Ranges x 366 100000000 10000000 1000000 → Fit x
  future : x.product ≡ 2 → Ranges x 0 200000000 10000000 1000000 → Fit x
  bond : x.product ≡ 3 → Ranges x 0 200000000 500000 50000 → Fit x

ranges : {x : Instrument} {from D F P A : ℕ} → InRanges x from D F P A → Ranges x D F P A
ranges r = record {
  days = r.to_day;
  today = up_to r.today;
  before = up_to r.before;
  par = up_to r.par;
  adj = up_to r.adj;
}

pub fit : (x : Instrument) → instrument_fits x ≡ true → Fit x
fit x h = by (by_product_lem x h)
  where
    by : ByProduct x → Fit x
    by (ByProduct.fra e r) = fra e (ranges r)
    by (ByProduct.future e r) = future e (ranges r)
    by (ByProduct.bond e r) = bond e (ranges r)

-- the widest of them, for any product
loosened :
    {x : Instrument} {D F P A : ℕ} → D ≤ 366 → F ≤ 200000000 → P ≤ 10000000 → A ≤ 1000000 →
    Ranges x D F P A → Ranges x 366 200000000 10000000 1000000
loosened d f p a r = record {
  days = omega (arith, r.days);
  today = wider f r.today;
  before = wider f r.before;
  par = wider p r.par;
  adj = wider a r.adj;
}

pub widest : {x : Instrument} → Fit x → Ranges x 366 200000000 10000000 1000000
widest (fra e r) = loosened (omega arith) (omega arith) (omega arith) (omega arith) r
widest (future e r) = loosened (omega arith) (omega arith) (omega arith) (omega arith) r
widest (bond e r) = loosened (omega arith) (omega arith) (omega arith) (omega arith) r

-- of a position: its quantity, and its price up to what its instrument's product has
pub record Holds (p : Position) (F : ℕ) : Type 0 where
  pub quantity : p.quantity ≤ 1000000
  pub price : UpTo F p.price

pub holds :
    (p : Position) (product F : ℕ) → price_fits product p.price ≡ within (pos 0) (pos F) p.price →
    position_fits p product ≡ true → Holds p F
holds p product F e h =
    let g = good_position p product h in
    record { quantity = g.most; price = up_to (between (pos 0) (pos F) p.price (sym e ∙ g.fits)) }
