-- What is left, in front of the text, is the number in front of the text as it was.
use Rattle.std.proofs.Common.{◌≡◌, ◌++◌}
use Rattle.paper.specs.Listing.{decimal}
use Rattle.text.proofs.Text.with_decimal.Given as goal

abbrev pub invariant-loop-left : goal.invariant-loop-left
invariant-loop-left l = decimal l.left ++ l.text ≡ decimal l.n ++ l.fn.self

abbrev pub decreases-loop-left : goal.decreases-loop-left
decreases-loop-left l = l.left
