use Rattle.std.proofs.Common.{length}
use Rattle.lines.proofs.+joined.Given as goal

abbrev pub decreases-joined : goal.decreases-joined
decreases-joined l = length l.fields.now
