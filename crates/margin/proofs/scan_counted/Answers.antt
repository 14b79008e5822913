use Rattle.std.proofs.lemmas.Result.{err_from_is_err_and}
use Rattle.margin.proofs.Counted.{was_whole, was_torn, counted_whole, counted_torn}
use Rattle.margin.proofs.scan_counted.Goals as goal

pub returns : goal.returns
returns c = rw c.scan.ensures (counted_whole c.args.kept.now c.args.size (was_whole _ _ c.in_ok-whole.ensures))

pub returns-in_err-whole : goal.returns-in_err-whole
returns-in_err-whole c =
    let p = err_from_is_err_and c.from_residual.result c.from_residual.ensures.1 in
    let t = was_torn _ _ _ c.in_err-whole.ensures in
    rw (p.1, p.2, t.1) (counted_torn c.args.kept.now c.args.size t.0)
