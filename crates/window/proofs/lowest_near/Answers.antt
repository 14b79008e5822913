use Rattle.std.proofs.Common.{◌∙◌}
use Rattle.paper.specs.Windows.{lowest_near}
use Rattle.amount.proofs.Ints.{back}
use Rattle.window.proofs.lowest_near.Goals as goal

pub returns : goal.returns
unfolding lowest_near
returns c = back _ c.lowest_from.type_inv ∙ c.lowest_from.ensures ∙ rw (c.last_within-to.ensures, c.first_within-from.ensures)
