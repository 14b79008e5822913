-- "Amount at a point", and mark-to-market. What is fixed and the positions are two things, both read from the book.
use Rattle.std.specs.Prelude.{Bool, cond, List, ℕ, ◌-◌, ◌*◌, eqb, ℤ, pos, neg_ℤ, nat_abs, ◌+ℤ◌, ◌-ℤ◌, ◌*ℤ◌}
use Rattle.std.specs.Int.Signed.{non_neg}
use Rattle.paper.specs.declared.Class.{Class}
use Rattle.paper.specs.declared.Instrument.{Instrument}
use Rattle.paper.specs.declared.Position.{Position}
use Rattle.paper.specs.declared.Holding.{Holding}
use Rattle.paper.specs.declared.Shape.{Shape}
use Rattle.paper.specs.Sums.{sum, only, lowest}
use Rattle.paper.specs.Units.{hundredth}
use Rattle.paper.specs.Records.{bought, traded_today, class_of, instrument_of, position_of}
use Rattle.paper.specs.Refusals.{by_product}
use Rattle.paper.specs.Rounding.{nearest}

-- what is fixed: the classes and the instruments, by number
pub record Terms : Type 0 where
  pub points : ℕ
  pub classes : ℕ
  pub class : ℕ → Class
  pub instruments : ℕ
  pub instrument : ℕ → Instrument

-- the positions, by number
pub record Positions : Type 0 where
  pub many : ℕ
  pub each : ℕ → Position

-- both as a book of a given shape has them
abbrev pub terms_of : List ℕ → Shape → Terms
terms_of b s = record {
  points = s.points;
  classes = s.classes;
  class = class_of b;
  instruments = s.instruments;
  instrument = instrument_of b s;
}

abbrev pub positions_of : List ℕ → Shape → Positions
positions_of b s = record { many = s.positions; each = position_of b s }

-- "Net is bought less sold quantity"; several positions may name one instrument
unfoldable pub net_of : Positions → ℕ → ℤ
net_of ps i =
    sum ps.many
    (λ k. let p = ps.each k in only (eqb p.instrument i) (cond (bought p) (pos p.quantity) (neg_ℤ (pos p.quantity))))

-- bought and sold quantity together: what the bounds go by
unfoldable pub gross_of : Positions → ℕ → ℤ
gross_of ps i = sum ps.many (λ k. let p = ps.each k in only (eqb p.instrument i) (pos p.quantity))

-- what is held of instrument i
abbrev pub held_of : Positions → ℕ → Holding
held_of ps i = record { net = net_of ps i; gross = gross_of ps i }

-- "Let m be points less one, and s(i) = Par times (2i - m)."
abbrev pub shift : Instrument → ℕ → ℕ → ℤ
shift x m i = x.par *ℤ (pos (2 * i) -ℤ pos m)

-- s(i) - Adj m: who gains as the scale goes up
abbrev pub rising : Instrument → ℕ → ℕ → ℤ
rising x m i = shift x m i -ℤ x.adj *ℤ pos m

-- -s(i) - Adj m: who loses; both lose the adjustment
abbrev pub falling : Instrument → ℕ → ℕ → ℤ
falling x m i = neg_ℤ (shift x m i) -ℤ x.adj *ℤ pos m

-- "Product 1 (..): bought (s(i) - Adj m) days / (360 m), sold (-s(i) - Adj m) days / (360 m), rounded to whole øre."
abbrev pub fra : Instrument → ℕ → Bool → ℕ → ℤ
fra x m buys i = nearest (cond buys (rising x m i) (falling x m i) *ℤ pos x.days) (360 * m)

-- "Product 2 (..): bought (-s(i) - Adj m) / (100 m), sold (s(i) - Adj m) / (100 m), rounded to a whole number of
-- hundredths of a basis point, then times 25."
abbrev pub future : Instrument → ℕ → Bool → ℕ → ℤ
future x m buys i = nearest (cond buys (falling x m i) (rising x m i)) (hundredth * m) *ℤ pos 25

-- "Product 3 (..): fixing times (s(i) - Adj m), or (-s(i) - Adj m) if sold, over (1,000,000 m), rounded to whole øre."
abbrev pub bond : Instrument → ℕ → Bool → ℕ → ℤ
bond x m buys i = nearest (x.today *ℤ cond buys (rising x m i) (falling x m i)) (1000000 * m)

-- "A net of zero gives an amount of 0 at every point. Otherwise the amount for one contract, times the size of the net"
abbrev pub times_net : ℤ → (Bool → ℤ) → ℤ
times_net net one = cond (eqb (nat_abs net) 0) (pos 0) (one (non_neg net) *ℤ pos (nat_abs net))

-- the amount at point i of what is held; a sound book has no other product
unfoldable pub amount_at : Instrument → ℕ → Holding → ℕ → ℤ
amount_at x points held i =
    let m = points - 1 in
    by_product x.product
    (times_net held.net (λ buys. fra x m buys i))
    (times_net held.net (λ buys. future x m buys i))
    (times_net held.net (λ buys. bond x m buys i))
    (pos 0)

-- "The naked margin of an instrument is its lowest amount"
unfoldable pub naked_of : Instrument → ℕ → Holding → ℤ
naked_of x points held = lowest (amount_at x points held) 0 (points - 1)

-- "For a bought or sold net of one contract it equals minus [(Par + Adj) days / 360], minus 25 [(Par + Adj) / 100],
-- minus [fixing (Par + Adj) / 1,000,000], brackets rounded"
unfoldable pub naked_of_one : Instrument → ℤ
naked_of_one x =
    let edge = x.par +ℤ x.adj in
    by_product x.product
    (neg_ℤ (nearest (edge *ℤ pos x.days) 360))
    (neg_ℤ (nearest edge 100 *ℤ pos 25))
    (neg_ℤ (nearest (x.today *ℤ edge) 1000000))
    (pos 0)

-- "the naked total is the sum over all instruments"
unfoldable pub naked_total : Terms → Positions → ℤ
naked_total ts ps = sum ts.instruments (λ i. naked_of (ts.instrument i) ts.points (held_of ps i))

-- "d the fixing today less the contracted price if traded today, else less the fixing before"
abbrev pub move : Instrument → Position → ℤ
move x p = x.today -ℤ cond (traded_today p) p.price x.before

-- "product 1 d days / 360, product 2 d / 4, product 3 d; rounded to øre"
abbrev pub mark_one : Instrument → ℤ → ℤ
mark_one x d = by_product x.product (nearest (d *ℤ pos x.days) 360) (nearest d 4) (nearest d 1) (pos 0)

-- "for one contract, bought (sold is the negative) .. times quantity"
unfoldable pub mark_of : Instrument → Position → ℤ
mark_of x p =
    let one = mark_one x (move x p) in
    cond (bought p) one (neg_ℤ one) *ℤ pos p.quantity

-- "added over all positions"
unfoldable pub mark_total : Terms → Positions → ℤ
mark_total ts ps = sum ps.many (λ k. let p = ps.each k in mark_of (ts.instrument p.instrument) p)

-- an instrument's mark-to-market amount: that of its own positions
unfoldable pub mark_of_item : Terms → Positions → ℕ → ℤ
mark_of_item ts ps i = sum ps.many (λ k. let p = ps.each k in only (eqb p.instrument i) (mark_of (ts.instrument i) p))
