use Rattle.std.proofs.Common.{rules}
use Rattle.listing.proofs.Edge.{was_ok, told_or_not}
use Rattle.listing.proofs.publish.Goals as goal

pub returns : goal.returns
returns g c =
    let wrote = was_ok _ c.list.result c.map_err.result c.in_ok-map_err.field-0 c.map_err.ensures.cases c.in_ok-map_err.was in
    told_or_not _ _ _ _ (rw wrote at c.list.ensures) c.explain.result c.explain.ensures (λ e f h. search rules) c.map_err-2.result c.map_err-2.ensures.cases
