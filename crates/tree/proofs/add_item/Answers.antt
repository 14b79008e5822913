use Rattle.std.proofs.Common.{sym}
use borrow.Author.Tests.{ne_eqb}
use lib.IntN.{+ℤ_idr}
use Rattle.tree.proofs.Buffers.{row_within, with_none}
use Rattle.tree.proofs.add_item.Goals as goal

pub returns-else-home_of-k : goal.returns-else-home_of-k
returns-else-home_of-k c =
    let b = c.args.book.now in
    let within = row_within b.shape.points b.shape.classes c.args.k c.args.rows.now c.requires.2 c.requires.0 in
    sym (with_none b.shape.points c.args.rows.now c.args.k within (λ x l. rw (ne_eqb _ _ (rw c.home_of.ensures.home at c.if-home_of-k.false)) (+ℤ_idr _)))
