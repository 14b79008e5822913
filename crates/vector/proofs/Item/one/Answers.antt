use Rattle.std.proofs.Common.{◌≡◌, ◌∙◌, false, eqb}
use borrow.Author.Tests.{ne_eqb}
use Rattle.amount.proofs.Ints.{back}
use Rattle.ranges.proofs.Products.{number_of, product_is, no_product}
use Rattle.vector.proofs.Item.one.Goals as goal

pub returns-in-Ok-Fra : goal.returns-in-Ok-Fra
returns-in-Ok-Fra c =
    let h : c.args.self.now.instrument.product ≡ number_of c.in-Ok-Fra.field-0 = product_is _ _ c.in-Ok-Fra.ensures in
    let e : c.args.self.now.instrument.product ≡ 1 = rw c.in-Ok-Fra.field-0-is at h in
    back _ c.fra.type_inv ∙ c.fra.ensures ∙ rw e

pub returns-in-Ok-Future : goal.returns-in-Ok-Future
returns-in-Ok-Future c =
    let h : c.args.self.now.instrument.product ≡ number_of c.in-Ok-Future.field-0 = product_is _ _ c.in-Ok-Future.ensures in
    let e : c.args.self.now.instrument.product ≡ 2 = rw c.in-Ok-Future.field-0-is at h in
    back _ c.future.type_inv ∙ c.future.ensures ∙ rw e

pub returns-in-Ok-Bond : goal.returns-in-Ok-Bond
returns-in-Ok-Bond c =
    let h : c.args.self.now.instrument.product ≡ number_of c.in-Ok-Bond.field-0 = product_is _ _ c.in-Ok-Bond.ensures in
    let e : c.args.self.now.instrument.product ≡ 3 = rw c.in-Ok-Bond.field-0-is at h in
    back _ c.bond.type_inv ∙ c.bond.ensures ∙ rw e

pub returns-in-Err : goal.returns-in-Err
returns-in-Err c =
    let p = c.args.self.now.instrument.product in
    let h = no_product p _ c.in-Err.ensures in
    let e : eqb p 1 ≡ false = ne_eqb p 1 h.fra in
    let f : eqb p 2 ≡ false = ne_eqb p 2 h.future in
    let g : eqb p 3 ≡ false = ne_eqb p 3 h.bond in
    rw (e, f, g)
