use Rattle.std.proofs.Common.{◌≡◌, length}
use Rattle.paper.specs.Products.{amount_at}
use Rattle.vector.proofs.Listed.{begun}
use Rattle.vector.proofs.Item.fill.Given as goal

-- the first i entries are the amounts, and the others as they were
abbrev pub invariant-loop-i : goal.invariant-loop-i
invariant-loop-i l =
    (length l.work ≡ length l.fn.work)
    × (l.work ≡ begun l.i (amount_at l.self.instrument l.self.points l.self.held) l.fn.work)
