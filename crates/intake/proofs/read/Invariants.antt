use Rattle.std.proofs.Common.{◌≡◌, ◌*◌, ◌≤◌, length}
use Rattle.paper.specs.Listing.{kept_bytes}
use Rattle.intake.proofs.Reading.{SoFar}
use Rattle.intake.proofs.read.Given as goal

abbrev pub invariant-loop : goal.invariant-loop
invariant-loop g l = record {
  room : length l.buffer ≡ kept_bytes;
  few : l.whole ≤ kept_bytes * l.counter;
  so_far : SoFar (g.R.Read.remaining l.initial.from) (g.R.Read.remaining l.from) l.buffer l.whole;
}
