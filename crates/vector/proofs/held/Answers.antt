use Rattle.std.proofs.Common.{◌∙◌, sym, arith}
use Rattle.std.proofs.Math.Numerals.{add-one}
use Rattle.paper.specs.Records.{position_of}
use Rattle.vector.proofs.Gross.{held_none, held_next}
use Rattle.vector.proofs.Book.{net_part, gross_part}
use Rattle.vector.proofs.held.Goals as goal

pub loop-k-init : goal.loop-k-init
loop-k-init c = sym (held_none _ 0 _)

pub hold_of-held-requires : goal.hold_of-held-requires
hold_of-held-requires c =
    let l = c.loop-k in
    let b = c.args.book.now in
    rw l.invariant (
      omega (arith, net_part b.bytes.now b.shape b.sound l.k c.args.i (omega arith)),
      omega (arith, gross_part b.bytes.now b.shape b.sound l.k c.args.i (omega arith)),
    )

pub loop-k-preserved : goal.loop-k-preserved
loop-k-preserved c =
    let l = c.loop-k in
    let b = c.args.book.now in
    c.hold_of-held.ensures ∙ rw (c.position.ensures, l.invariant, add-one) (sym (held_next (position_of b.bytes.now b.shape) l.k c.args.i))
