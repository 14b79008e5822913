use Rattle.std.proofs.Common.{arith}
use Rattle.vector.proofs.Book.{book, points_of, net_part}
use Rattle.vector.proofs.Item.of.Goals as goal

pub invariant_of-result : goal.invariant_of-result
invariant_of-result c =
    let b = c.args.book.now in
    let p = points_of b.bytes.now b.shape b.sound c.args.i c.requires in
    record {
      fits = rw c.instrument.ensures (((book b.bytes.now b.shape b.sound).instrument c.args.i c.requires).fits);
      least = p.least;
      most = p.most;
      few = rw c.held.ensures (net_part b.bytes.now b.shape b.sound b.shape.positions c.args.i (omega arith));
    }
