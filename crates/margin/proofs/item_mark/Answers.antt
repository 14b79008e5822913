use Rattle.std.proofs.Common.{◌∙◌, ap}
use Rattle.margin.specs.Items.{item_mark_for, item_mark_of}
use Rattle.margin.proofs.item_mark.Goals as goal

pub returns : goal.returns
unfolding item_mark_of
returns c = c.mark_in.ensures ∙ ap (item_mark_for c.args.book.now c.args.i) c.in-Ok.ensures

pub returns-in_default : goal.returns-in_default
unfolding item_mark_of
returns-in_default c = ap (item_mark_for c.args.book.now c.args.i) c.in_default.ensures
