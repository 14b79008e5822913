use Rattle.std.proofs.Common.{refl, ◌<◌, length, pos, arith}
use lib.ListN.{length-set}
use Rattle.paper.specs.Sums.{listed}
use Rattle.paper.specs.Products.{amount_at}
use Rattle.amount.proofs.Ints.{back}
use Rattle.vector.proofs.Listed.{begun_set}
use Rattle.vector.proofs.Item.fill.Goals as goal

pub loop-i-init : goal.loop-i-init
unfolding listed
loop-i-init c = (refl, refl)

pub loop-i-preserved : goal.loop-i-preserved
loop-i-preserved c =
    let l = c.loop-i in
    let n = c.args.self.now in
    let h : l.i < length c.args.work.now = omega arith in (
      simp length-set l.invariant.0,
      rw (back _ c.amount_at.type_inv, c.amount_at.ensures, l.invariant.1) (begun_set l.i (amount_at n.instrument n.points n.held) c.args.work.now (pos 0) h),
    )
