use Rattle.std.proofs.Common.{◌≡◌, ◌-◌, get_or, pos}
use Rattle.paper.specs.Sums.{lowest}
use Rattle.amount.proofs.lowest_from.Given as goal

-- the lowest as far as y
abbrev pub invariant-loop-y : goal.invariant-loop-y
invariant-loop-y l = l.low ≡ lowest (λ y. get_or l.v y (pos 0)) l.from (l.y - l.from)
