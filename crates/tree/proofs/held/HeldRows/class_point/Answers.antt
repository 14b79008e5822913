use Rattle.std.proofs.Common.{arith}
use Rattle.book.proofs.Sound.{sound_book}
use Rattle.tree.proofs.held.HeldRows.class_point.Goals as goal

pub overflow_sub-points : goal.overflow_sub-points
overflow_sub-points c = let p = (sound_book _ _ c.args.self.now.book.sound).points (omega arith) in omega arith

pub chosen-requires : goal.chosen-requires
chosen-requires c =
    let b = c.args.self.now.book in
    let p = (sound_book _ _ b.sound).points (omega arith) in
    (c.requires.0, omega (arith, p.least))
