use Rattle.std.proofs.Common.{◌≡◌}
use Rattle.paper.specs.Records.{position_of}
use Rattle.paper.specs.Products.{held_of}
use Rattle.vector.proofs.Gross.{first_of}
use Rattle.vector.proofs.held.Given as goal

abbrev pub invariant-loop-k : goal.invariant-loop-k
invariant-loop-k l = l.held ≡ held_of (first_of (position_of l.book.bytes.now l.book.shape) l.k) l.i
