use Rattle.std.proofs.Common.{◌≡◌, ◌++◌}
use Rattle.paper.specs.Listing.{lines}
use Rattle.listing.specs.Page.{class_in}
use Rattle.listing.proofs.page.Page.put_classes.Given as goal

abbrev pub invariant-loop-k : goal.invariant-loop-k
invariant-loop-k l = l.self ≡ l.fn.self ++ lines l.k (class_in l.points)
