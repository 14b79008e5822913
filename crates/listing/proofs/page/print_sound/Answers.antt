use Rattle.std.proofs.Common.{arith}
use Rattle.book.proofs.Sound.{sound_book}
use Rattle.listing.proofs.page.print_sound.Goals as goal

pub print_figures-requires-clause-choice : goal.print_figures-requires-clause-choice
print_figures-requires-clause-choice c = let ok = sound_book _ _ c.args.book.now.sound in omega (arith, ok.classes, ok.instruments)
