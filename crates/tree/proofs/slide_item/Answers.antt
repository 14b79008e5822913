use Rattle.std.proofs.Common.{◌∙◌}
use Rattle.paper.specs.Answers.{walk_of}
use Rattle.amount.proofs.Lists.{listed_length}
use Rattle.tree.proofs.Buffers.{first_listed, near_listed, row_within, with_cong}
use Rattle.tree.proofs.slide_item.Goals as goal

pub slide_row-requires : goal.slide_row-requires
slide_row-requires c =
    let b = c.args.book.now in
    let p = b.shape.points in
    let v = (walk_of b.bytes.now b.shape).tree.amount c.args.i in
    let filled = rw (c.of.ensures.points, c.of.ensures.instrument, c.of.ensures.held) at c.fill.ensures in
    rw (first_listed p v c.fill.new.work _ filled, c.reach_of-reach.ensures) (
      row_within p b.shape.classes c.args.k c.args.rows.now c.requires.2 c.requires.0,
      listed_length p v,
      λ x l. rw (near_listed p v _ x l) (c.requires.3 x l),
    )

pub returns : goal.returns
returns c =
    let b = c.args.book.now in
    let p = b.shape.points in
    let v = (walk_of b.bytes.now b.shape).tree.amount c.args.i in
    let filled = rw (c.of.ensures.points, c.of.ensures.instrument, c.of.ensures.held) at c.fill.ensures in
    c.slide_row.ensures
    ∙ rw (first_listed p v c.fill.new.work _ filled, c.reach_of-reach.ensures)
    (with_cong p c.args.rows.now c.args.k (row_within p b.shape.classes c.args.k c.args.rows.now c.requires.2 c.requires.0)
    (λ x l. rw (near_listed p v _ x l)))
