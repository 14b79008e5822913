-- How large an instrument's amounts can be. The three formulas are one: what a side gains or loses as the scale goes up,
-- times a factor, rounded over a divisor. Assumes nothing.
use mathlib.Core.Path.{◌≡◌, refl, sym, ap, ◌∙◌}
use mathlib.Core.Bool.{Bool, true, false, not, cond}
use Prim.Native.Nat.{ℕ, ◌+◌, ◌-◌, ◌*◌, ◌≤◌, ◌<◌}
use native.Mathlib.Nat.{zero-mul, add-mul, mul_assoc, mul_right_comm, mul-le-mul, mul-le-mul_left, mul-le-mul_right, mul-pos}
use native.Mathlib.Decide.{ℕ_discrete}
use native.Mathlib.Omega.{arith}
use borrow.Author.Tests.{eq-eqb, ne_eqb}
use lib.Dec.{eqb}
use lib.IntN.{ℤ, pos, neg_ℤ, nat_abs, ◌-ℤ◌, ◌*ℤ◌, *ℤ_comm, *ℤ-zero}
use lib.Signed.{non_neg}
use Rattle.paper.specs.declared.Instrument.{Instrument}
use Rattle.paper.specs.declared.Position.{Position}
use Rattle.paper.specs.declared.Holding.{Holding}
use Rattle.paper.specs.Rounding.{nearest}
use Rattle.paper.specs.Refusals.{by_product, instrument_fits, position_fits}
use Rattle.paper.specs.Records.{bought, traded_today}
use Rattle.paper.specs.Products as paper
use Rattle.paper.specs.Products.{shift, rising, falling, times_net, amount_at, naked_of, move, mark_one, mark_of}
use Rattle.amount.proofs.Ints.{ints, plus, neg, sign, abs}
use Rattle.amount.proofs.Worst.{lowest_is}
use mir.Syntax.{w64}
use mir.Val.{SFits, to_z, of_z}
use Rattle.vector.specs.Parts.{one_at}
use Rattle.vector.proofs.Signs.{size_neg, size_plus, size_times, times_one, size_fits, read_back}
use Rattle.vector.proofs.Rounding.{nearest_within}
use Rattle.vector.proofs.Ranges.{UpTo, Ranges, Fit, fra, future, bond, fit, widest, wider, Holds, holds}

-- who gains as the scale goes up, or who loses
abbrev pub tilt : Instrument → ℕ → Bool → ℕ → ℤ
tilt x m up i = cond up (rising x m i) (falling x m i)

-- the sizes of Par and Adj together: what the worst point costs
abbrev pub edge : Instrument → ℕ
edge x = nat_abs x.par + nat_abs x.adj

-- k times that, over d
abbrev pub rounded : Instrument → ℕ → ℕ → ℕ → Bool → ℕ → ℤ
rounded x k d m up i = nearest (tilt x m up i *ℤ pos k) (d * m)

pub off_size : (m i : ℕ) → i ≤ m → nat_abs (pos (2 * i) -ℤ pos m) ≤ m
off_size m i h =
    let z : ℤ = pos (2 * i) -ℤ pos m in
    omega (ints, plus (pos (2 * i)) (neg_ℤ (pos m)), neg (pos m), abs z, sign z)

pub shift_size : (x : Instrument) (m i : ℕ) → i ≤ m → nat_abs (shift x m i) ≤ nat_abs x.par * m
shift_size x m i h = rw (size_times x.par (pos (2 * i) -ℤ pos m)) (mul-le-mul_left (nat_abs x.par) (off_size m i h))

adjusted : (x : Instrument) (m : ℕ) (z : ℤ) → nat_abs z ≤ nat_abs x.par * m → nat_abs (z -ℤ x.adj *ℤ pos m) ≤ edge x * m
adjusted x m z h =
    let a : ℤ = x.adj *ℤ pos m in
    omega (arith, size_plus z (neg_ℤ a), size_neg a, size_times x.adj (pos m), add-mul (nat_abs x.par) (nat_abs x.adj) m)

pub tilt_size : (x : Instrument) (m : ℕ) (up : Bool) (i : ℕ) → i ≤ m → nat_abs (tilt x m up i) ≤ edge x * m
tilt_size x m true i h = adjusted x m (shift x m i) (shift_size x m i h)
tilt_size x m false i h = adjusted x m (neg_ℤ (shift x m i)) (rw (size_neg (shift x m i)) (shift_size x m i h))

-- the numerator, and what it is rounded to, where a factor and an edge are within limits
module _ (x : Instrument) (m : ℕ) (up : Bool) (i : ℕ) (h : i ≤ m) where
  pub numerator_size : (z : ℤ) → nat_abs (tilt x m up i *ℤ z) ≤ edge x * nat_abs z * m
  numerator_size z =
      rw (size_times (tilt x m up i) z, mul_right_comm (edge x) (nat_abs z) m)
      (mul-le-mul_right (nat_abs z) (tilt_size x m up i h))

  pub rounded_size : (k d c : ℕ) → 0 < d → 0 < m → edge x * k ≤ c * d → nat_abs (rounded x k d m up i) ≤ c
  rounded_size k d c g l e =
      nearest_within (tilt x m up i *ℤ pos k) (d * m) c (mul-pos g l)
      (rw (← mul_assoc c d m) (omega (arith, numerator_size (pos k), mul-le-mul_right m e)))

-- what the code holds on the way, of an instrument whose fields are in their ranges
module _ (x : Instrument) (f : instrument_fits x ≡ true) (m i : ℕ) (g : m ≤ 200) (h : i ≤ m) where
  limits : Ranges x 366 200000000 10000000 1000000
  limits = widest (fit x f)

  pub shift_most : nat_abs (shift x m i) ≤ 2000000000
  shift_most = omega (arith, shift_size x m i h, mul-le-mul limits.par.most g)

  pub adj_most : nat_abs (x.adj *ℤ pos m) ≤ 200000000
  adj_most = omega (arith, size_times x.adj (pos m), mul-le-mul limits.adj.most g)

  pub tilt_most : (up : Bool) → nat_abs (tilt x m up i) ≤ 2200000000
  tilt_most up =
      let e : edge x ≤ 11000000 = omega (arith, limits.par.most, limits.adj.most) in
      omega (arith, tilt_size x m up i h, mul-le-mul e g)

  -- the numerators of products 1 and 3; that of product 2 is the tilt
  pub fra_most : (up : Bool) → nat_abs (tilt x m up i *ℤ pos x.days) ≤ 4000000000000000000
  fra_most up = omega (arith, size_times (tilt x m up i) (pos x.days), mul-le-mul (tilt_most up) limits.days)

  pub bond_most : (up : Bool) → nat_abs (x.today *ℤ tilt x m up i) ≤ 4000000000000000000
  bond_most up = omega (arith, size_times x.today (tilt x m up i), mul-le-mul limits.today.most (tilt_most up))

  pub hundredths_most : (up : Bool) → 0 < m → nat_abs (nearest (tilt x m up i) (100 * m) *ℤ pos 25) ≤ 4000000000000000000
  hundredths_most up l =
      let z : ℤ = nearest (tilt x m up i) (100 * m) in
      let h : nat_abs z ≤ 2200000000 = nearest_within (tilt x m up i) (100 * m) 2200000000 (omega arith) (omega (arith, tilt_most up)) in
      omega (arith, size_times z (pos 25))

-- a function of what the product chooses
pub chosen :
    {A B : Type 0} (f : A → B) (product : ℕ) (a b c d : A) →
    f (by_product product a b c d) ≡ by_product product (f a) (f b) (f c) (f d)
chosen f product a b c d = go (eqb product 1) (eqb product 2) (eqb product 3)
  where
    go : (s t u : Bool) → f (cond s a (cond t b (cond u c d))) ≡ cond s (f a) (cond t (f b) (cond u (f c) (f d)))
    go true t u = refl
    go false true u = refl
    go false false true = refl
    go false false false = refl

-- "times the size of the net": a net of zero needs no case of its own
pub times_net_lem : (net : ℤ) (one : Bool → ℤ) → times_net net one ≡ one (non_neg net) *ℤ pos (nat_abs net)
times_net_lem net one = elim (ℕ_discrete (nat_abs net) 0) [
  | yes e ↦ rw (eq-eqb (nat_abs net) 0 e, e) (sym (*ℤ-zero (one (non_neg net))))
  | no e ↦ rw (ne_eqb (nat_abs net) 0 e)
]

pub amount_is :
    (x : Instrument) (points : ℕ) (held : Holding) (i : ℕ) →
    amount_at x points held i ≡ one_at x (points - 1) (non_neg held.net) i *ℤ pos (nat_abs held.net)
unfolding amount_at
amount_is x points held i =
    let m = points - 1 in
    let n = held.net in
    let fra : Bool → ℤ = λ buys. paper.fra x m buys i in
    let future : Bool → ℤ = λ buys. paper.future x m buys i in
    let bond : Bool → ℤ = λ buys. paper.bond x m buys i in
    let all = chosen (λ z. z *ℤ pos (nat_abs n)) x.product (fra (non_neg n)) (future (non_neg n)) (bond (non_neg n)) (pos 0) in
    rw (times_net_lem n fra, times_net_lem n future, times_net_lem n bond) (rw (zero-mul (nat_abs n)) at (sym all))

-- each formula as the one
pub future_tilt :
    (x : Instrument) (m : ℕ) (buys : Bool) (i : ℕ) →
    nearest (tilt x m (not buys) i) (100 * m) *ℤ pos 25 ≡ paper.future x m buys i
future_tilt x m true i = refl
future_tilt x m false i = refl

pub future_is :
    (x : Instrument) (m : ℕ) (buys : Bool) (i : ℕ) → paper.future x m buys i ≡ rounded x 1 100 m (not buys) i *ℤ pos 25
future_is x m buys i =
    sym (future_tilt x m buys i) ∙ ap (λ z. nearest z (100 * m) *ℤ pos 25) (sym (times_one (tilt x m (not buys) i)))

pub bond_is :
    {F : ℕ} (x : Instrument) (m : ℕ) (buys : Bool) (i : ℕ) → UpTo F x.today →
    paper.bond x m buys i ≡ rounded x (nat_abs x.today) 1000000 m buys i
bond_is x m buys i u =
    let t = tilt x m buys i in
    ap (λ z. nearest z (1000000 * m)) (*ℤ_comm x.today t ∙ ap (λ z. t *ℤ z) u.is)

-- one contract is at most 2,000,000 kroner, bought or sold
pub one_size : (x : Instrument) (m : ℕ) (buys : Bool) (i : ℕ) → Fit x → 0 < m → i ≤ m → nat_abs (one_at x m buys i) ≤ 200000000
one_size x m buys i (fra e r) g h =
    let k : edge x ≤ 11000000 = omega (arith, r.par.most, r.adj.most) in
    rw e (rounded_size x m buys i h x.days 360 200000000 (omega arith) g (omega (arith, mul-le-mul k r.days)))
one_size x m buys i (future e r) g h =
    let k : edge x ≤ 11000000 = omega (arith, r.par.most, r.adj.most) in
    rw (e, future_is x m buys i, size_times (rounded x 1 100 m (not buys) i) (pos 25))
    (omega (arith, rounded_size x m (not buys) i h 1 100 8000000 (omega arith) g (omega arith)))
one_size x m buys i (bond e r) g h =
    let k : edge x ≤ 550000 = omega (arith, r.par.most, r.adj.most) in
    rw (e, bond_is x m buys i r.today)
    (rounded_size x m buys i h (nat_abs x.today) 1000000 200000000 (omega arith) g
    (omega (arith, mul-le-mul k r.today.most)))

-- what is held, of contracts n bought and sold together
pub amount_size :
    (x : Instrument) (points : ℕ) (held : Holding) (i n : ℕ) → instrument_fits x ≡ true → 2 ≤ points → i < points →
    nat_abs held.net ≤ n → nat_abs (amount_at x points held i) ≤ 200000000 * n
amount_size x points held i n f g h l =
    let one : ℤ = one_at x (points - 1) (non_neg held.net) i in
    rw (amount_is x points held i, size_times one (pos (nat_abs held.net)))
    (mul-le-mul (one_size x (points - 1) (non_neg held.net) i (fit x f) (omega arith) (omega arith)) l)

pub naked_size :
    (x : Instrument) (points : ℕ) (held : Holding) (n : ℕ) → instrument_fits x ≡ true → 2 ≤ points →
    nat_abs held.net ≤ n → nat_abs (naked_of x points held) ≤ 200000000 * n
unfolding naked_of
naked_size x points held n f g l =
    let w = lowest_is (amount_at x points held) 0 (points - 1) in
    rw (← w.is) (amount_size x points held w.at n f g (omega (arith, w.to)) l)

-- two fixings or prices are no further apart than the limit
pub less_size : (F : ℕ) (a b : ℤ) → UpTo F a → UpTo F b → nat_abs (a -ℤ b) ≤ F
less_size F a b u w = omega (ints, u.is, w.is, u.most, w.most, plus a (neg_ℤ b), neg b, abs (a -ℤ b), sign (a -ℤ b))

-- an instrument's fixings, and the price of a position that names it, up to what any product has
pub any_price : (x : Instrument) (p : Position) → Fit x → position_fits p x.product ≡ true → Holds p 200000000
any_price x p (fra e r) f =
    let h = holds p x.product 100000000 (rw e) f in
    record { quantity = h.quantity; price = wider (omega arith) h.price }
any_price x p (future e r) f = holds p x.product 200000000 (rw e) f
any_price x p (bond e r) f = holds p x.product 200000000 (rw e) f

pub move_size : {D F P A : ℕ} (x : Instrument) (p : Position) → Ranges x D F P A → Holds p F → nat_abs (move x p) ≤ F
move_size {F} x p r h = go (traded_today p)
  where
    go : (t : Bool) → nat_abs (x.today -ℤ cond t p.price x.before) ≤ F
    go true = less_size F x.today p.price r.today h.price
    go false = less_size F x.today x.before r.today r.before

pub side_size : (t : Bool) (z : ℤ) → nat_abs (cond t z (neg_ℤ z)) ≡ nat_abs z
side_size true z = refl
side_size false z = size_neg z

pub mark_one_size :
    (x : Instrument) (p : Position) → Fit x → position_fits p x.product ≡ true →
    nat_abs (mark_one x (move x p)) ≤ 200000000
mark_one_size x p (fra e r) f =
    let d : nat_abs (move x p) ≤ 100000000 = move_size x p r (holds p x.product 100000000 (rw e) f) in
    rw e
    (nearest_within (move x p *ℤ pos x.days) 360 200000000 (omega arith)
    (rw (size_times (move x p) (pos x.days)) (omega (arith, mul-le-mul d r.days))))
mark_one_size x p (future e r) f =
    let d : nat_abs (move x p) ≤ 200000000 = move_size x p r (holds p x.product 200000000 (rw e) f) in
    rw e (nearest_within (move x p) 4 200000000 (omega arith) (omega arith))
mark_one_size x p (bond e r) f =
    let d : nat_abs (move x p) ≤ 200000000 = move_size x p r (holds p x.product 200000000 (rw e) f) in
    rw e (nearest_within (move x p) 1 200000000 (omega arith) (omega arith))

pub mark_size :
    (x : Instrument) (p : Position) → instrument_fits x ≡ true → position_fits p x.product ≡ true →
    nat_abs (mark_of x p) ≤ 200000000 * p.quantity
unfolding mark_of
mark_size x p f g =
    let one : ℤ = mark_one x (move x p) in
    rw (size_times (cond (bought p) one (neg_ℤ one)) (pos p.quantity), side_size (bought p) one)
    (mul-le-mul_right p.quantity (mark_one_size x p (fit x f) g))

-- a difference of two fixings, or of a fixing and a price, fits as the code reads their bits
less_fits : (a b : ℤ) → UpTo 200000000 a → UpTo 200000000 b → SFits w64 (to_z w64 (of_z w64 a) -ℤ to_z w64 (of_z w64 b))
less_fits a b u w =
    rw (read_back a (omega (arith, u.most)), read_back b (omega (arith, w.most)))
    (size_fits (a -ℤ b) (omega (arith, less_size 200000000 a b u w)))

pub since_trade :
    (x : Instrument) (p : Position) → instrument_fits x ≡ true → position_fits p x.product ≡ true →
    SFits w64 (to_z w64 (of_z w64 x.today) -ℤ to_z w64 (of_z w64 p.price))
since_trade x p f g = less_fits x.today p.price (widest (fit x f)).today (any_price x p (fit x f) g).price

pub since_fixing :
    (x : Instrument) → instrument_fits x ≡ true → SFits w64 (to_z w64 (of_z w64 x.today) -ℤ to_z w64 (of_z w64 x.before))
since_fixing x f = less_fits x.today x.before (widest (fit x f)).today (widest (fit x f)).before
