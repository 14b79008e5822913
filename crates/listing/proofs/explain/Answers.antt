use Rattle.std.proofs.Common.{subst}
use Rattle.std.proofs.lemmas.Result.{on_ok_weaker}
use Rattle.std.specs.Io.KnownBytes.{Appends}
use Rattle.listing.proofs.explain.Goals as goal

pub returns : goal.returns
returns g c =
    let r = c.whole_reason in
    on_ok_weaker c.say.result (λ had b of. subst (Appends _ _) (r.ensures.of_book b of) had) c.say.ensures
