use Rattle.std.proofs.Common.{length, arith}
use Rattle.listing.specs.Page.{class_in}
use Rattle.listing.proofs.Pages.{no_line, next_line, line_fits}
use Rattle.listing.proofs.page.Page.put_classes.Goals as goal

pub loop-k-init : goal.loop-k-init
loop-k-init c = no_line _ _

pub put-requires : goal.put-requires
put-requires c =
    let a = c.args in
    rw c.class_line.ensures (line_fits (length a.points.now) c.loop-k.k (class_in a.points.now) a.self.now (omega arith) c.requires c.loop-k.invariant)

pub loop-k-preserved : goal.loop-k-preserved
loop-k-preserved c = next_line c.loop-k.k (class_in c.args.points.now) c.args.self.now c.loop-k.invariant (rw c.class_line.ensures at c.put.ensures)
