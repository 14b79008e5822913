use Rattle.std.proofs.Common.{arith, rules}
use Rattle.intake.proofs.Reading.{went_on}
use Rattle.intake.proofs.read.Goals as goal

pub loop-preserved : goal.loop-preserved
loop-preserved g c =
    let n = rw (c.in-Ok-Some.is, c.in-Ok-Some.field-0-is) at c.next.ensures in
    record {
      room = search rules;
      few = omega (arith, n.2.counted, n.2.few);
      so_far = went_on _ _ _ _ _ n.0 _ _ c.loop.invariant.so_far n.1 n.2;
    }
