use Rattle.std.proofs.Common.{◌∙◌, ap, ap₂, cond, ℤ, neg_ℤ, ◌+ℤ◌, arith}
use Rattle.paper.specs.Records.{bought}
use Rattle.amount.proofs.Ints.{back}
use Rattle.vector.proofs.Signs.{read_back, read_nat}
use Rattle.vector.proofs.hold.Goals as goal

pub returns : goal.returns
returns c =
    let s = c.args in
    let q = read_nat s.p.quantity (omega arith) in
    ap₂ (λ (a b : ℤ). record { net = a; gross = b })
    (back _ c.plus.type_inv
    ∙ c.plus.ensures
    ∙ ap₂ ◌+ℤ◌
    (read_back s.held.net c.requires.0)
    (back _ c.turned.type_inv ∙ (rw c.bought.ensures at c.turned.ensures) ∙ ap (λ z. cond (bought s.p) z (neg_ℤ z)) q))
    (back _ c.plus-2.type_inv ∙ c.plus-2.ensures ∙ ap₂ ◌+ℤ◌ (read_back s.held.gross c.requires.1) q)
