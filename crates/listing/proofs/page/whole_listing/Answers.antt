use Rattle.std.proofs.Common.{arith}
use Rattle.listing.proofs.Whole.{unwrapped}
use Rattle.listing.proofs.page.whole_listing.Goals as goal

pub returns : goal.returns
returns c =
    let r = c.args.read in
    rw c.unwrap_or.ensures (unwrapped r.bytes.now r.whole c.args.out.now c.listing.new.out (omega (arith, c.told-out)) c.listing.result c.listing.ensures)
