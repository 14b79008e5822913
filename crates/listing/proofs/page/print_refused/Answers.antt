use Rattle.listing.proofs.page.print_refused.Goals as goal

pub returns : goal.returns
returns c = rw (c.put.ensures, c.empty-page.ensures, c.refused_line.ensures) at c.print.ensures
