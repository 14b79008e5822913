use Rattle.std.proofs.Common.{◌≡◌, ◌++◌, take, drop}
use Rattle.paper.specs.Trees.{item_choice}
use Rattle.paper.specs.Answers.{walk_of}
use Rattle.vector.proofs.Listed.{begun}
use Rattle.tree.proofs.choice.choose_items.Given as goal

abbrev pub invariant-loop-i : goal.invariant-loop-i
invariant-loop-i l =
    let n = l.book.shape.classes in
    let w = walk_of l.book.bytes.now l.book.shape in
    l.choice ≡ take n l.initial.choice ++ begun l.i (item_choice w.tree w.row) (drop n l.initial.choice)
