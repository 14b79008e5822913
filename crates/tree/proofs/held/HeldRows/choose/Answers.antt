use Rattle.std.proofs.Common.{◌∙◌, drop, drop-drop, arith}
use lib.Seq.{take_at}
use Rattle.paper.specs.Sums.{listed}
use Rattle.paper.specs.Trees.{class_choice}
use Rattle.paper.specs.Answers.{walk_of, choice_for}
use Rattle.amount.proofs.Lists.{listed_length}
use Rattle.tree.proofs.Buffers.{drop_past}
use Rattle.tree.proofs.Read.{begun_at}
use Rattle.tree.proofs.held.HeldRows.choose.Goals as goal

pub choose_items-requires : goal.choose_items-requires
choose_items-requires c =
    let b = c.args.self.now.book in
    let w = walk_of b.bytes.now b.shape in (
      omega arith,
      λ k l. rw c.choose_classes.ensures (begun_at b.shape.classes k (class_choice w.tree w.row) c.args.choice.now 0 l),
    )

pub returns : goal.returns
unfolding choice_for
returns c =
    let b = c.args.self.now.book in
    let w = walk_of b.bytes.now b.shape in
    let points = class_choice w.tree w.row in
    let n = b.shape.classes in
    let m = b.shape.instruments in
    let start = c.args.choice.now in
    c.choose_items.ensures
    ∙ rw (c.choose_classes.ensures, take_at (listed n points) (drop n start) n (listed_length n points), drop_past (listed n points) (drop n start) n m (listed_length n points), drop-drop m n start)
