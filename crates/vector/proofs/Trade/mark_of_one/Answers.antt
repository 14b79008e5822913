use Rattle.std.proofs.Common.{◌≡◌, ◌∙◌, sym, arith}
use Rattle.ranges.proofs.Products.{number_of, product_is}
use Rattle.vector.proofs.Signs.{read_back}
use Rattle.vector.proofs.Rounding.{nearest_whole}
use Rattle.vector.proofs.Trade.mark_of_one.Goals as goal

pub returns-in-Ok-Bond : goal.returns-in-Ok-Bond
returns-in-Ok-Bond c =
    let h : c.args.self.now.instrument.product ≡ number_of c.in-Ok-Bond.field-0 = product_is _ _ c.in-Ok-Bond.ensures in
    let e : c.args.self.now.instrument.product ≡ 3 = rw c.in-Ok-Bond.field-0-is at h in
    rw e (read_back c.args.d (omega arith) ∙ sym (nearest_whole c.args.d))
