use Rattle.std.proofs.Common.{◌≡◌, ◌++◌}
use Rattle.paper.specs.Listing.{lines}
use Rattle.listing.specs.Page.{item_by}
use Rattle.listing.proofs.page.Page.put_items.Given as goal

abbrev pub invariant-loop-i : goal.invariant-loop-i
invariant-loop-i l = l.self ≡ l.fn.self ++ lines l.i (item_by l.book l.points)
