use Rattle.std.proofs.Common.{◌≡◌}
use Rattle.paper.specs.Sums.{sum}
use Rattle.paper.specs.Answers.{add_cross, walk_of}
use Rattle.tree.specs.Buffers.{rows_in, from_root}
use Rattle.tree.proofs.held.HeldRows.cross.Given as goal

abbrev pub invariant-loop-k : goal.invariant-loop-k
invariant-loop-k l =
    l.totals ≡ add_cross l.fn.t (sum l.k (from_root (walk_of l.self.book.bytes.now l.self.book.shape).tree (rows_in l.self.book.shape.points l.self.cells.now)))
