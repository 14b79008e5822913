use Rattle.std.proofs.Common.{◌∙◌, arith}
use Rattle.paper.specs.Answers.{walk_of}
use Rattle.tree.proofs.Book.{valid}
use Rattle.tree.proofs.Filled.{classes_fit, items_fit, row_filled}
use Rattle.tree.proofs.fill_row.Goals as goal

pub add_classes-requires : goal.add_classes-requires
add_classes-requires c =
    let b = c.args.book.now in
    let t = (walk_of b.bytes.now b.shape).tree in
    (c.requires.0, omega arith, rw c.clear_row.ensures (classes_fit t (valid _ _ b.sound) c.args.rows.now c.args.k c.requires.0 c.requires.1 c.requires.2))

pub add_items-requires : goal.add_items-requires
add_items-requires c =
    let b = c.args.book.now in
    let t = (walk_of b.bytes.now b.shape).tree in (
      c.requires.0,
      omega arith,
      rw (c.add_classes.ensures, c.clear_row.ensures)
          (items_fit t (valid _ _ b.sound) c.args.rows.now c.args.k c.requires.0 c.requires.1 c.requires.2),
    )

pub returns : goal.returns
returns c =
    let b = c.args.book.now in
    c.add_items.ensures
    ∙ rw (c.add_classes.ensures, c.clear_row.ensures)
    (row_filled (walk_of b.bytes.now b.shape).tree (valid _ _ b.sound) c.args.rows.now c.args.k c.requires.0 c.requires.1)
