use Rattle.std.proofs.lemmas.Result.{err_from_is_err_and}
use Rattle.std.proofs.Common.{◌≡◌, false}
use Rattle.paper.specs.Refusals.{position_fits}
use Rattle.ranges.proofs.Products.{product_is, no_product, position_held, position_of_none}
use Rattle.ranges.proofs.position_finding.Goals as goal

pub returns-in_err-product : goal.returns-in_err-product
returns-in_err-product c =
    let h = no_product _ _ c.in_err-product.ensures in
    let e : position_fits c.args.p c.args.product ≡ false = position_of_none c.args.p _ _ h in
    let p = err_from_is_err_and c.from_residual.result c.from_residual.ensures.1 in
    rw (p.1, p.2, e, h.fault)

pub returns : goal.returns
returns c =
    rw (c.found.ensures, c.position_holds.ensures, c.of.ensures, position_held c.args.p _ _ (product_is _ _ c.in_ok-product.ensures))
