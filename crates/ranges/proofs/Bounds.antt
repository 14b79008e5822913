-- The ranges of a sound record's fields, as facts of order. Assumes nothing.
use mathlib.Core.Path.{◌≡◌}
use mathlib.Core.Logic.{◌⊎◌, inl, inr, ⊎_elim}
use mathlib.Core.Bool.{Bool, true, ◌&&◌}
use Prim.Native.Nat.{ℕ, ◌+◌, ◌%◌, ◌≤◌}
use native.Mathlib.Decide.{ℕ_discrete}
use native.Mathlib.Omega.{arith}
use borrow.Author.Tests.{eqb-true, leb-true}
use lib.Dec.{T, eqb, leb}
use lib.IntN.{ℤ, pos}
use lib.Signed.{le_z, ◌≤ℤ◌, le_z_yes}
use Rattle.paper.specs.declared.Instrument.{Instrument}
use Rattle.paper.specs.declared.Position.{Position}
use Rattle.paper.specs.Refusals.{within, points_fit, days_fit, price_fits, par_fits, adj_fits, instrument_fits, position_fits}
use Rattle.amount.proofs.Ints.{ints, ≤ℤ-antisymm}
use Rattle.ranges.proofs.Choices.{Chosen, first, second, third, chosen, both, either}

-- lo ≤ z ≤ hi
pub record Between (lo hi z : ℤ) : Type 0 where
  pub low : lo ≤ℤ z
  pub high : z ≤ℤ hi

true_T : {t : Bool} → t ≡ true → T t
true_T h = rw h tt

pub between : (lo hi z : ℤ) → within lo hi z ≡ true → Between lo hi z
between lo hi z h =
    let p = both (le_z lo z) (le_z z hi) h in
    record { low = le_z_yes (true_T p.0); high = le_z_yes (true_T p.1) }

pub wider : {hi z : ℤ} (top : ℤ) → hi ≤ℤ top → Between (pos 0) hi z → Between (pos 0) top z
wider {hi} {z} top h k = record { low = k.low; high = omega (ints, k.high) }

-- "Points are odd, 3 to 201"
pub record GoodPoints (points : ℕ) : Type 0 where
  pub least : 3 ≤ points
  pub most : points ≤ 201
  pub odd : points % 2 ≡ 1

pub good_points : (points : ℕ) → points_fit points ≡ true → GoodPoints points
good_points points h =
    let p = both _ _ h in
    let q = both _ _ p.0 in
    record { least = leb-true _ _ q.0; most = leb-true _ _ q.1; odd = eqb-true _ _ p.1 }

-- an instrument's fields by their upper ends, and its days by both
pub record InRanges (x : Instrument) (firstDay lastDay topPrice topPar topAdj : ℕ) : Type 0 where
  pub from_day : firstDay ≤ x.days
  pub to_day : x.days ≤ lastDay
  pub today : Between (pos 0) (pos topPrice) x.today
  pub before : Between (pos 0) (pos topPrice) x.before
  pub par : Between (pos 0) (pos topPar) x.par
  pub adj : Between (pos 0) (pos topAdj) x.adj

-- a sound instrument is of one of the three products, with that product's ranges
pub data ByProduct (x : Instrument) : Type 0 where
  fra : x.product ≡ 1 → InRanges x 1 366 100000000 10000000 1000000 → ByProduct x
  future : x.product ≡ 2 → InRanges x 0 0 200000000 10000000 1000000 → ByProduct x
  bond : x.product ≡ 3 → InRanges x 0 0 200000000 500000 50000 → ByProduct x

-- the five tests of an instrument
record Five (x : Instrument) : Type 0 where
  days : days_fit x.product x.days ≡ true
  today : price_fits x.product x.today ≡ true
  before : price_fits x.product x.before ≡ true
  par : par_fits x.product x.par ≡ true
  adj : adj_fits x.product x.adj ≡ true

five : (x : Instrument) → instrument_fits x ≡ true → Five x
unfolding instrument_fits
five x h =
    let p = both _ _ h in
    let q = both _ _ p.0 in
    let r = both _ _ q.0 in
    let s = both _ _ r.0 in
    record { days = s.0; today = s.1; before = r.1; par = q.1; adj = p.1 }

-- with the product's number in their place, four of them are ranges
ranges :
    (x : Instrument) (product : ℕ) {from to price par adj : ℕ}
    → Five x
    → x.product ≡ product
    → from ≤ x.days
    → x.days ≤ to
    → ((z : ℤ) → price_fits product z ≡ true → Between (pos 0) (pos price) z)
    → ((z : ℤ) → par_fits product z ≡ true → Between (pos 0) (pos par) z)
    → ((z : ℤ) → adj_fits product z ≡ true → Between (pos 0) (pos adj) z)
    → InRanges x from to price par adj
ranges x product f e lo hi prices pars adjs = record {
  from_day = lo;
  to_day = hi;
  today = prices _ (rw e at f.today);
  before = prices _ (rw e at f.before);
  par = pars _ (rw e at f.par);
  adj = adjs _ (rw e at f.adj);
}

pub by_product_lem : (x : Instrument) → instrument_fits x ≡ true → ByProduct x
by_product_lem x h = by (five x h) (chosen x.product (leb 1 x.days && leb x.days 366) (eqb x.days 0) (eqb x.days 0) (five x h).days)
  where
    by : Five x → Chosen x.product (leb 1 x.days && leb x.days 366) (eqb x.days 0) (eqb x.days 0) → ByProduct x
    by f (first e d) =
        let p = both _ _ d in
        fra e (ranges x 1 f e (leb-true _ _ p.0) (leb-true _ _ p.1) (between _ _) (between _ _) (between _ _))
    by f (second e d) =
        let z : x.days ≡ 0 = eqb-true x.days 0 d in
        future e (ranges x 2 f e (omega arith) (omega arith) (between _ _) (between _ _) (between _ _))
    by f (third e d) =
        let z : x.days ≡ 0 = eqb-true x.days 0 d in
        bond e (ranges x 3 f e (omega arith) (omega arith) (between _ _) (between _ _) (between _ _))

-- what holds of every product
pub widest : {x : Instrument} → ByProduct x → InRanges x 0 366 200000000 10000000 1000000
widest (fra e r) = record {
  from_day = omega arith;
  to_day = r.to_day;
  today = wider _ (le_z_yes tt) r.today;
  before = wider _ (le_z_yes tt) r.before;
  par = r.par;
  adj = r.adj;
}
widest (future e r) = record { from_day = omega arith; to_day = omega (arith, r.to_day); today = r.today; before = r.before; par = r.par; adj = r.adj }
widest (bond e r) = record {
  from_day = omega arith;
  to_day = omega (arith, r.to_day);
  today = r.today;
  before = r.before;
  par = wider _ (le_z_yes tt) r.par;
  adj = wider _ (le_z_yes tt) r.adj;
}

-- a price in the range of a product
pub fra_price : (product : ℕ) (z : ℤ) → product ≡ 1 → price_fits product z ≡ true → Between (pos 0) (pos 100000000) z
fra_price product z e h = between _ _ _ (rw e at h)

pub price : (product : ℕ) (z : ℤ) → price_fits product z ≡ true → Between (pos 0) (pos 200000000) z
price product z h = by (chosen product (within (pos 0) (pos 100000000) z) (within (pos 0) (pos 200000000) z) (within (pos 0) (pos 200000000) z) h)
  where
    by : Chosen product (within (pos 0) (pos 100000000) z) (within (pos 0) (pos 200000000) z) (within (pos 0) (pos 200000000) z) → Between (pos 0) (pos 200000000) z
    by (first e t) = wider _ (le_z_yes tt) (between _ _ _ t)
    by (second e t) = between _ _ _ t
    by (third e t) = between _ _ _ t

-- a position's fields, with the product of the instrument that it names
pub record GoodPosition (q : Position) (product : ℕ) : Type 0 where
  pub side : (q.side ≡ 1) ⊎ (q.side ≡ 2)
  pub least : 1 ≤ q.quantity
  pub most : q.quantity ≤ 1000000
  pub traded : (q.traded ≡ 1) ⊎ (q.traded ≡ 0)
  pub fits : price_fits product q.price ≡ true
  pub price : Between (pos 0) (pos 200000000) q.price
  pub carried : q.traded ≡ 0 → q.price ≡ pos 0

one_of : (lo n : ℕ) → lo ≤ n → n ≤ lo + 1 → (n ≡ lo) ⊎ (n ≡ lo + 1)
one_of lo n h k = elim (ℕ_discrete n lo) [
  | yes e ↦ inl e
  | no e ↦ inr (omega arith)
]

pub good_position : (q : Position) (product : ℕ) → position_fits q product ≡ true → GoodPosition q product
unfolding position_fits
good_position q product h =
    let p6 = both _ _ h in
    let p5 = both _ _ p6.0 in
    let p4 = both _ _ p5.0 in
    let p3 = both _ _ p4.0 in
    let p2 = both _ _ p3.0 in
    let quantity = both _ _ p3.1 in
    record {
      side = one_of 1 q.side (leb-true _ _ p2.0) (leb-true _ _ p2.1);
      least = leb-true _ _ quantity.0;
      most = leb-true _ _ quantity.1;
      traded = ⊎_elim inr inl (one_of 0 q.traded (omega arith) (leb-true _ _ p5.1));
      fits = p4.1;
      price = price product q.price p4.1;
      carried = λ e. carried e (either _ _ p6.1);
    }
  where
    carried : q.traded ≡ 0 → (eqb q.traded 1 ≡ true) ⊎ (within (pos 0) (pos 0) q.price ≡ true) → q.price ≡ pos 0
    carried e (inl t) = absurd (omega (arith, eqb-true q.traded 1 t))
    carried e (inr t) = let z = between _ _ _ t in ≤ℤ-antisymm z.high z.low
