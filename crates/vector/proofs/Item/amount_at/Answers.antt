use Rattle.std.proofs.Common.{◌≡◌, ◌∙◌, sym, true, ℕ, ◌-◌, ◌<◌, ◌≤◌, ℤ, pos, nat_abs, ◌*ℤ◌, to_z, of_z, arith}
use Rattle.std.specs.Int.{w64}
use Rattle.std.specs.Int.Signed.{le_z, non_neg}
use Rattle.paper.specs.declared.Instrument.{Instrument}
use Rattle.paper.specs.declared.Holding.{Holding}
use Rattle.paper.specs.Refusals.{instrument_fits}
use Rattle.paper.specs.Products.{amount_at}
use Rattle.amount.proofs.Ints.{back}
use Rattle.vector.proofs.Signs.{read_back, not_below}
use Rattle.vector.proofs.Ranges.{fit}
use Rattle.vector.proofs.Bounds.{one_size, amount_is}
use Rattle.vector.specs.Parts.{one_at}
use Rattle.vector.proofs.Item.amount_at.Goals as goal

-- what each arm shows of the amount of one contract that it found
module _ (x : Instrument) (points : ℕ) (held : Holding) (i : ℕ) (n : nat_abs held.net ≤ 256000000) where
  -- the bits of the net, read back; and who buys, as the code asks it
  net : to_z w64 (of_z w64 held.net) ≡ held.net
  net = read_back held.net (omega arith)

  buys : le_z (pos 0) (to_z w64 (of_z w64 held.net)) ≡ non_neg held.net
  buys = rw net (not_below held.net)

  -- one contract on the side of the net
  one : ℤ
  one = one_at x (points - 1) (non_neg held.net) i

  module _ (z : ℤ) (e : z ≡ one) where
    asks :
        instrument_fits x ≡ true → 3 ≤ points → points ≤ 201 → i < points →
        (nat_abs z ≤ 200000000) × (nat_abs (to_z w64 (of_z w64 held.net)) ≤ 256000000)
    unfolding one
    asks f l m h = rw (e, net) (one_size x (points - 1) (non_neg held.net) i (fit x f) (omega arith) (omega arith), n)

    gives : (r : ℤ) → r ≡ z *ℤ pos (nat_abs (to_z w64 (of_z w64 held.net))) → r ≡ amount_at x points held i
    unfolding one
    gives r h = h ∙ rw (e, net) (sym (amount_is x points held i))

pub for_net-requires : goal.for_net-requires
unfolding one
for_net-requires c =
    let n = c.args.self.now in
    let e = back _ c.one.type_inv ∙ c.one.ensures ∙ rw (buys n.instrument n.points n.held c.args.i n.few) in
    asks n.instrument n.points n.held c.args.i n.few _ e n.fits n.least n.most c.requires

pub returns : goal.returns
unfolding one
returns c =
    let n = c.args.self.now in
    let e = back _ c.one.type_inv ∙ c.one.ensures ∙ rw (buys n.instrument n.points n.held c.args.i n.few) in
    back _ c.for_net.type_inv ∙ gives n.instrument n.points n.held c.args.i n.few _ e _ c.for_net.ensures
