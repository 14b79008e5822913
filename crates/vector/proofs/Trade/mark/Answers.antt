use Rattle.std.proofs.Common.{◌≡◌, ◌∙◌, ap, ap₂, cond, ◌<◌, ◌≤◌, ◌^◌, ℤ, neg_ℤ, ◌*ℤ◌, to_z, of_z, arith}
use Rattle.std.specs.Int.{w64}
use Rattle.std.specs.Int.Signed.{mag}
use Rattle.paper.specs.declared.Instrument.{Instrument}
use Rattle.paper.specs.declared.Position.{Position}
use Rattle.paper.specs.Records.{bought}
use Rattle.paper.specs.Products.{move, mark_one, mark_of}
use Rattle.amount.proofs.Ints.{back}
use Rattle.vector.proofs.Signs.{size_fits, read_nat}
use Rattle.vector.proofs.Ranges.{fit, widest}
use Rattle.vector.proofs.Bounds.{any_price, move_size, mark_one_size, mark_size}
use Rattle.vector.proofs.Trade.mark.Goals as goal

-- the bits of what each call gives, read back
module _ (x : Instrument) (p : Position) (d o : ℤ) (k : mag d < 2 ^ 63) (e : d ≡ move x p) where
  far : to_z w64 (of_z w64 d) ≡ move x p
  far = back _ k ∙ e

  module _ (l : mag o < 2 ^ 63) (f : o ≡ mark_one x (to_z w64 (of_z w64 d))) where
    one : to_z w64 (of_z w64 o) ≡ mark_one x (move x p)
    one = back _ l ∙ f ∙ ap (mark_one x) far

    -- the two factors
    factors :
        (t : ℤ) → mag t < 2 ^ 63 → t ≡ cond (bought p) (to_z w64 (of_z w64 o)) (neg_ℤ (to_z w64 (of_z w64 o))) → p.quantity ≤ 4000000000000000000 →
        (to_z w64 (of_z w64 t) *ℤ to_z w64 p.quantity) ≡ mark_of x p
    unfolding mark_of
    factors t m g q = ap₂ ◌*ℤ◌ (back _ m ∙ g ∙ ap (λ z. cond (bought p) z (neg_ℤ z)) one) (read_nat p.quantity q)

pub mark_of_one-one-requires : goal.mark_of_one-one-requires
mark_of_one-one-requires c =
    let s = c.args.self.now in
    let f = fit s.instrument s.fits in
    rw (far s.instrument s.position c.moved.result c.moved.result c.moved.type_inv c.moved.ensures)
    (move_size s.instrument s.position (widest f) (any_price s.instrument s.position f s.good))

pub turned-requires : goal.turned-requires
turned-requires c =
    let s = c.args.self.now in
    let o = c.mark_of_one-one in
    rw (one s.instrument s.position c.moved.result o.result c.moved.type_inv c.moved.ensures o.type_inv o.ensures)
    (omega (arith, mark_one_size s.instrument s.position (fit s.instrument s.fits) s.good))

pub times-requires : goal.times-requires
times-requires c =
    let s = c.args.self.now in
    let o = c.mark_of_one-one in
    let q = (any_price s.instrument s.position (fit s.instrument s.fits) s.good).quantity in
    rw (factors s.instrument s.position c.moved.result o.result c.moved.type_inv c.moved.ensures o.type_inv o.ensures c.turned.result c.turned.type_inv (rw c.bought.ensures at c.turned.ensures) (omega (arith, q)))
    (size_fits _ (omega (arith, mark_size s.instrument s.position s.fits s.good, q)))

pub returns : goal.returns
returns c =
    let s = c.args.self.now in
    let o = c.mark_of_one-one in
    let q = (any_price s.instrument s.position (fit s.instrument s.fits) s.good).quantity in
    back _ c.times.type_inv
    ∙ c.times.ensures
    ∙ factors s.instrument s.position c.moved.result o.result c.moved.type_inv c.moved.ensures o.type_inv o.ensures c.turned.result c.turned.type_inv (rw c.bought.ensures at c.turned.ensures) (omega (arith, q))
