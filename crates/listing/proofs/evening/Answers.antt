use Rattle.listing.proofs.Edge.{of_published}
use Rattle.listing.proofs.evening.Goals as goal

pub returns-in-Ok : goal.returns-in-Ok
returns-in-Ok g c = of_published _ _ _ _ (rw c.in-Ok.is at c.read.ensures.read) c.publish.result c.publish.ensures
