use Rattle.std.proofs.Common.{length, arith}
use Rattle.listing.specs.Page.{item_by}
use Rattle.listing.proofs.Pages.{no_line, next_line, line_fits}
use Rattle.listing.proofs.page.Page.put_items.Goals as goal

pub loop-i-init : goal.loop-i-init
loop-i-init c = no_line _ _

pub put_item-requires : goal.put_item-requires
put_item-requires c =
    let a = c.args in
    line_fits (length a.points.now) c.loop-i.i (item_by a.book.now a.points.now) a.self.now (omega arith) c.requires c.loop-i.invariant

pub loop-i-preserved : goal.loop-i-preserved
loop-i-preserved c = next_line c.loop-i.i (item_by c.args.book.now c.args.points.now) c.args.self.now c.loop-i.invariant c.put_item.ensures
