use Rattle.std.proofs.Common.{arith}
use Rattle.book.proofs.Sound.{sound_book}
use Rattle.tree.proofs.Buffers.{row_within}
use Rattle.tree.proofs.held.HeldRows.chosen.Goals as goal

pub chosen_in-requires : goal.chosen_in-requires
chosen_in-requires c =
    let rows = c.args.self.now in
    let s = rows.book.shape in
    let most = ((sound_book _ _ rows.book.sound).points (omega arith)).most in
    (row_within s.points s.classes c.args.k rows.cells.now rows.room c.requires.0, most, c.requires.1)
