use Rattle.std.proofs.Common.{rules}
use Rattle.margin.proofs.Counted.{counted_sound}
use Rattle.listing.proofs.Whole.{listed_short, listed_sound, listed_refused}
use Rattle.listing.proofs.page.listing.Goals as goal

pub returns-then-short : goal.returns-then-short
returns-then-short c = listed_short c.args.kept.now c.args.size c.args.out.now c.ranges.size.fits (search rules)

pub invariant_of-print_sound : goal.invariant_of-print_sound
invariant_of-print_sound c = record { sound = counted_sound c.args.kept.now c.args.size c.in-Ok.shape c.in-Ok.ensures }

pub returns-in-Ok : goal.returns-in-Ok
returns-in-Ok c = listed_sound c.args.kept.now c.args.size c.args.out.now c.in-Ok.shape c.in-Ok.ensures c.print_sound.ensures

pub returns-in-Err : goal.returns-in-Err
returns-in-Err c =
    let r = c.in-Err.refusal in
    listed_refused c.args.kept.now c.args.size c.args.out.now r.fault r.place c.in-Err.ensures c.print_refused.ensures
