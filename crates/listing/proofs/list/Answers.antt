use Rattle.std.proofs.Common.{sym, subst, ◌≡◌, ◌≤◌, length, take, arith, rules}
use Rattle.std.proofs.lemmas.List.{length-take-le}
use Rattle.std.proofs.lemmas.Result.{on_ok_weaker}
use Rattle.std.specs.Io.KnownBytes.{Appends}
use Rattle.paper.specs.Listing.{listing_of}
use Rattle.listing.proofs.Whole.{within, as_long}
use Rattle.listing.proofs.Edge.{stands}
use Rattle.listing.proofs.list.Goals as goal

-- what was written lies within the buffer
pub slice_bounds-hand-end : goal.slice_bounds-hand-end
slice_bounds-hand-end g c =
    let w = c.whole_listing-n in
    let fits : w.result ≤ length w.new.out = omega (arith, within _ _ _ _ (search rules) _ w.ensures, as_long _ _ _ _ (search rules) _ w.ensures) in
    sym (length-take-le w.result _ fits)

pub returns : goal.returns
returns g c =
    let w = c.whole_listing-n in
    on_ok_weaker c.hand.result
    (λ had b of.
    let is : take w.result w.new.out ≡ listing_of b = stands (listing_of b) _ w.new.out w.result (search rules) (w.ensures.of_book b of) in
    subst (Appends _ _) is had)
    c.hand.ensures
