use Rattle.std.proofs.Common.{◌-◌, ◌<◌, length}
use Rattle.window.specs.Slides.{entry_of}
use Rattle.window.proofs.First.{FirstLowest}
use Rattle.window.proofs.first_lowest.Given as goal

-- first is the lowest-numbered with the lowest entry of those before y
abbrev pub invariant-loop-y : goal.invariant-loop-y
invariant-loop-y l = record { on : l.first < length l.v; lowest : FirstLowest (entry_of l.v) 0 (l.y - 1) l.first }
