use Rattle.std.proofs.Common.{◌∙◌, ◌+◌, arith}
use Rattle.paper.specs.Answers.{walk_of}
use Rattle.tree.proofs.Book.{valid}
use Rattle.tree.proofs.Filled.{no_class, class_step, class_next}
use Rattle.tree.proofs.add_classes.Goals as goal

pub loop-c-init : goal.loop-c-init
loop-c-init c =
    let b = c.args.book.now in
    no_class (walk_of b.bytes.now b.shape).tree (valid _ _ b.sound) c.args.rows.now c.args.k c.requires.0 c.requires.1

pub add_class-requires : goal.add_class-requires
add_class-requires c =
    let b = c.args.book.now in
    let l = c.loop-c in
    let step = class_step (walk_of b.bytes.now b.shape).tree (valid _ _ b.sound) c.args.rows.now c.args.k c.requires.0 c.requires.1 l.c in
    (c.requires.0, omega arith, omega arith, λ x m. rw (l.invariant, step x (omega arith) m) (c.requires.2 (l.c + 1) (omega arith) x m))

pub loop-c-preserved : goal.loop-c-preserved
loop-c-preserved c =
    let b = c.args.book.now in
    let l = c.loop-c in
    let next = class_next (walk_of b.bytes.now b.shape).tree (valid _ _ b.sound) c.args.rows.now c.args.k c.requires.0 c.requires.1 l.c (omega arith) in
    c.add_class.ensures ∙ rw l.invariant next
