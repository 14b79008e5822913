use Rattle.listing.proofs.Pages.{figures_by_part, fits_next, fits_last, joined_three}
use Rattle.listing.proofs.page.Page.put_figures.Goals as goal

pub put_classes-requires : goal.put_classes-requires
put_classes-requires c =
    let a = c.args in
    let p = c.split_at in
    let e = figures_by_part a.book.now a.s a.t a.choice.now p.result.0.now p.result.1.now p.ensures.front p.ensures.back c.requires.1 in
    fits_next a.self.now _ _ _ e c.requires.0 c.put_totals.ensures

pub put_items-requires : goal.put_items-requires
put_items-requires c =
    let a = c.args in
    let p = c.split_at in
    let e = figures_by_part a.book.now a.s a.t a.choice.now p.result.0.now p.result.1.now p.ensures.front p.ensures.back c.requires.1 in
    fits_last a.self.now _ _ _ e c.requires.0 c.put_totals.ensures c.put_classes.ensures

pub returns : goal.returns
returns c =
    let a = c.args in
    let p = c.split_at in
    let e = figures_by_part a.book.now a.s a.t a.choice.now p.result.0.now p.result.1.now p.ensures.front p.ensures.back c.requires.1 in
    joined_three a.self.now _ _ _ e c.requires.0 c.put_totals.ensures c.put_classes.ensures c.put_items.ensures
