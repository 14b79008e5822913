use Rattle.std.proofs.Common.{ap, length, arith}
use Rattle.listing.proofs.Lengths.{sound_short}
use Rattle.listing.proofs.page.print_figures.Goals as goal

pub put_figures-requires : goal.put_figures-requires
put_figures-requires c =
    let b = c.args.book.now in
    (omega (arith, sound_short _ _ b.sound, ap length c.empty-page.ensures, ap length c.requires.figures), c.requires.choice)

pub returns : goal.returns
returns c = rw (c.put_figures.ensures, c.empty-page.ensures, c.requires.figures) at c.print.ensures
