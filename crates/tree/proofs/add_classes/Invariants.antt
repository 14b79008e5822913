use Rattle.std.proofs.Common.{◌≡◌}
use Rattle.paper.specs.Answers.{walk_of}
use Rattle.tree.specs.Buffers.{with_row, with_classes}
use Rattle.tree.proofs.add_classes.Given as goal

abbrev pub invariant-loop-c : goal.invariant-loop-c
invariant-loop-c l =
    l.rows ≡ with_row l.book.shape.points l.initial.rows l.k (with_classes (walk_of l.book.bytes.now l.book.shape).tree l.initial.rows l.k l.c)
