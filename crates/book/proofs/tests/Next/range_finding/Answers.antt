use Rattle.std.proofs.Common.{◌≡◌, sym, ◌<◌, arith}
use Rattle.paper.specs.Records.{kind_at}
use Rattle.book.proofs.Verdicts.{stands}
use Rattle.book.proofs.tests.Next.range_finding.Goals as goal

pub invariant_of-named : goal.invariant_of-named
invariant_of-named c =
    let n = c.args.self.now in
    let k : kind_at n.this.book.now n.this.number ≡ 3 = sym (rw c.in-Some-Position.field-0-is at c.in-Some-Position.ensures) in
    let h : c.position-position.result.instrument < n.before.instruments =
    rw c.position-position.ensures (stands n.this.book.now n.this.number n.before k c.requires) in
    omega (arith, n.earlier, n.this.within)
