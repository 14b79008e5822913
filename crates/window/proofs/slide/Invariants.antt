use Rattle.std.proofs.Common.{◌≡◌}
use Rattle.amount.proofs.Lists.{filled}
use Rattle.window.specs.Slides.{slid}
use Rattle.window.proofs.slide.Given as goal

abbrev pub invariant-loop-x : goal.invariant-loop-x
invariant-loop-x l = l.row ≡ filled (slid l.initial.row l.v l.r) l.initial.row l.x
