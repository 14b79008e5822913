use Rattle.std.proofs.Common.{◌≡◌}
use Rattle.paper.specs.Sums.{sum}
use Rattle.paper.specs.Answers.{add_mark}
use Rattle.vector.specs.Parts.{mark_at}
use Rattle.vector.proofs.marks.Given as goal

abbrev pub invariant-loop-p : goal.invariant-loop-p
invariant-loop-p l = l.totals ≡ add_mark l.fn.t (sum l.p (mark_at l.book.bytes.now l.book.shape))
