use Rattle.std.proofs.Common.{arith}
use Rattle.book.proofs.Sound.{sound_book}
use Rattle.tree.proofs.Buffers.{row_within}
use Rattle.tree.proofs.held.HeldRows.lowest.Goals as goal

pub lowest_in-requires : goal.lowest_in-requires
lowest_in-requires c =
    let rows = c.args.self.now in
    let s = rows.book.shape in
    let some = (sound_book _ _ rows.book.sound).points (omega arith) in
    (row_within s.points s.classes c.args.k rows.cells.now rows.room c.requires, omega (arith, some.least))
