use Rattle.std.proofs.Common.{◌∙◌, ◌+◌, arith}
use Rattle.paper.specs.Answers.{walk_of}
use Rattle.tree.proofs.Book.{valid}
use Rattle.tree.proofs.Filled.{no_item, item_step, item_next}
use Rattle.tree.proofs.add_items.Goals as goal

pub loop-i-init : goal.loop-i-init
loop-i-init c =
    let b = c.args.book.now in
    no_item (walk_of b.bytes.now b.shape).tree (valid _ _ b.sound) c.args.rows.now c.args.k c.requires.0 c.requires.1

pub add_item-requires : goal.add_item-requires
add_item-requires c =
    let b = c.args.book.now in
    let l = c.loop-i in
    let step = item_step (walk_of b.bytes.now b.shape).tree (valid _ _ b.sound) c.args.rows.now c.args.k c.requires.0 c.requires.1 l.i in
    (c.requires.0, omega arith, omega arith, λ x m. rw (l.invariant, step x m) (c.requires.2 (l.i + 1) (omega arith) x m))

pub loop-i-preserved : goal.loop-i-preserved
loop-i-preserved c =
    let b = c.args.book.now in
    let l = c.loop-i in
    let next = item_next (walk_of b.bytes.now b.shape).tree (valid _ _ b.sound) c.args.rows.now c.args.k c.requires.0 c.requires.1 l.i in
    c.add_item.ensures ∙ rw l.invariant next
