use Rattle.std.proofs.Common.{refl, ◌<◌, length, arith}
use Rattle.paper.specs.Sums.{listed}
use Rattle.paper.specs.Trees.{class_choice}
use Rattle.paper.specs.Answers.{class_point, walk_of}
use Rattle.vector.proofs.Listed.{begun_set}
use Rattle.tree.proofs.Book.{valid}
use Rattle.tree.proofs.Theorem.{choice_on_lem}
use Rattle.tree.proofs.Read.{begun_at, class_chosen}
use Rattle.tree.proofs.held.HeldRows.choose_classes.Goals as goal

pub loop-k-init : goal.loop-k-init
unfolding listed
loop-k-init c = refl

pub class_point-requires : goal.class_point-requires
class_point-requires c =
    let b = c.args.self.now.book in
    let l = c.loop-k in
    let w = walk_of b.bytes.now b.shape in
    let ok = valid _ _ b.sound in (
      omega arith,
      omega arith,
      λ r.
          let before = ok.before l.k (omega arith) r in
          rw (l.invariant, begun_at l.k (w.tree.parent l.k) (class_choice w.tree w.row) c.args.choice.now 0 before)
          (choice_on_lem w.tree ok (w.tree.parent l.k) (omega arith)),
    )

pub loop-k-preserved : goal.loop-k-preserved
loop-k-preserved c =
    let b = c.args.self.now.book in
    let l = c.loop-k in
    let w = walk_of b.bytes.now b.shape in
    let points = class_choice w.tree w.row in
    let start = c.args.choice.now in
    let h : l.k < length start = omega arith in
    let chosen = class_chosen w.tree (valid _ _ b.sound) c.args.self.now.cells.now c.args.self.now.held (class_point l.choice) l.k (omega arith)
    (λ j g. rw l.invariant (begun_at l.k j points start 0 g)) in
    rw (c.class_point.ensures, chosen, l.invariant) (begun_set l.k points start 0 h)
