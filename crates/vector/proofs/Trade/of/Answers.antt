use Rattle.vector.proofs.Book.{book, position_fits_lem}
use Rattle.vector.proofs.Trade.of.Goals as goal

pub instrument-requires : goal.instrument-requires
instrument-requires c =
    let b = c.args.book.now in
    rw c.position-position.ensures ((book b.bytes.now b.shape b.sound).position c.args.k c.requires).instrument

pub invariant_of-result : goal.invariant_of-result
invariant_of-result c =
    let b = c.args.book.now in
    let k = book b.bytes.now b.shape b.sound in
    record {
      fits = rw (c.instrument.ensures, c.position-position.ensures) (k.instrument _ (k.position c.args.k c.requires).instrument).fits;
      good = rw (c.instrument.ensures, c.position-position.ensures) (position_fits_lem b.bytes.now b.shape b.sound c.args.k c.requires);
    }
