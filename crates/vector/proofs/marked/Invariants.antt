use Rattle.std.proofs.Common.{◌≡◌}
use Rattle.paper.specs.Sums.{sum}
use Rattle.vector.specs.Parts.{mark_for}
use Rattle.vector.proofs.marked.Given as goal

abbrev pub invariant-loop-k : goal.invariant-loop-k
invariant-loop-k l = l.total ≡ sum l.k (mark_for l.book.bytes.now l.book.shape l.i)
