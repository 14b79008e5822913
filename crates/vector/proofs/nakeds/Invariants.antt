use Rattle.std.proofs.Common.{◌≡◌}
use Rattle.paper.specs.Sums.{sum}
use Rattle.paper.specs.Answers.{add_naked}
use Rattle.vector.specs.Parts.{naked_at}
use Rattle.vector.proofs.nakeds.Given as goal

abbrev pub invariant-loop-i : goal.invariant-loop-i
invariant-loop-i l = l.totals ≡ add_naked l.fn.t (sum l.i (naked_at l.book.bytes.now l.book.shape))
