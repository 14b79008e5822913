use Rattle.std.proofs.Common.{◌≡◌}
use Rattle.paper.specs.Trees.{class_choice}
use Rattle.paper.specs.Answers.{walk_of}
use Rattle.vector.proofs.Listed.{begun}
use Rattle.tree.proofs.held.HeldRows.choose_classes.Given as goal

abbrev pub invariant-loop-k : goal.invariant-loop-k
invariant-loop-k l =
    let w = walk_of l.self.book.bytes.now l.self.book.shape in
    l.choice ≡ begun l.k (class_choice w.tree w.row) l.initial.choice
