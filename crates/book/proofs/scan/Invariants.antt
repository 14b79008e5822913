use Rattle.std.proofs.Common.{◌≡◌, ◌-◌}
use Rattle.paper.specs.Records.{shape_of}
use Rattle.paper.specs.Refusals.{verdict_from, verdict_of}
use Rattle.book.proofs.scan.Given as goal

-- the records before r are clean, and the verdict is that of the others
abbrev pub invariant-loop-r : goal.invariant-loop-r
invariant-loop-r l = (l.before ≡ shape_of l.book l.r) × (verdict_of l.book ≡ verdict_from l.book l.r (l.n - l.r))
