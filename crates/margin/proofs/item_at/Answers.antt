use Rattle.std.proofs.Common.{◌∙◌, ap}
use Rattle.margin.specs.Items.{item_for, item_of}
use Rattle.margin.proofs.item_at.Goals as goal

pub returns : goal.returns
unfolding item_of
returns c = c.item_of.ensures ∙ ap (item_for c.args.book.now c.args.i c.args.point) c.in-Ok.ensures

pub returns-in_default : goal.returns-in_default
unfolding item_of
returns-in_default c = ap (item_for c.args.book.now c.args.i c.args.point) c.in_default.ensures
