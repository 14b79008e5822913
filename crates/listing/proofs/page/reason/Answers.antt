use Rattle.std.proofs.Common.{◌∙◌}
use Rattle.listing.proofs.Reasons.{nothing_said, refusal_said}
use Rattle.listing.proofs.page.reason.Goals as goal

pub returns-in-Err : goal.returns-in-Err
returns-in-Err c = refusal_said _ _ _ _ c.in-Err.ensures (c.refusal.ensures ∙ rw c.kind_of.ensures)

pub returns-in-Ok : goal.returns-in-Ok
returns-in-Ok c = nothing_said _ _ _ c.in-Ok.ensures c.empty.ensures
