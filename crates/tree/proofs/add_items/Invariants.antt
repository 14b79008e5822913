use Rattle.std.proofs.Common.{◌≡◌}
use Rattle.paper.specs.Answers.{walk_of}
use Rattle.tree.specs.Buffers.{with_row, with_items}
use Rattle.tree.proofs.add_items.Given as goal

abbrev pub invariant-loop-i : goal.invariant-loop-i
invariant-loop-i l =
    l.rows ≡ with_row l.book.shape.points l.initial.rows l.k (with_items (walk_of l.book.bytes.now l.book.shape).tree l.initial.rows l.k l.i)
