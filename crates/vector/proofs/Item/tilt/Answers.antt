use Rattle.std.proofs.Common.{◌-◌, ◌≡◌, ◌∙◌, ap, ap₂, arith, true, false, ◌≤◌, ◌<◌, ◌^◌, ℕ, ℤ, pos, neg_ℤ, ◌-ℤ◌, ◌*ℤ◌, to_z, of_z}
use Rattle.std.specs.Int.{w64}
use Rattle.std.specs.Int.Signed.{mag}
use lib.IntN.{+ℤ_idl}
use Rattle.paper.specs.declared.Instrument.{Instrument}
use Rattle.paper.specs.Refusals.{instrument_fits}
use Rattle.paper.specs.Products.{shift, rising, falling}
use Rattle.amount.proofs.Ints.{back}
use Rattle.vector.proofs.Signs.{size_fits, size_neg, read_back, read_nat}
use Rattle.vector.proofs.Ranges.{fit, widest}
use Rattle.vector.proofs.Bounds.{shift_most, adj_most, tilt_most}
use Rattle.vector.proofs.Item.tilt.Goals as goal

-- the two factors of the adjustment, read back
factors : (x : Instrument) (m : ℕ) → instrument_fits x ≡ true → m ≤ 200 → (to_z w64 (of_z w64 x.adj) *ℤ to_z w64 m) ≡ (x.adj *ℤ pos m)
factors x m f h = ap₂ ◌*ℤ◌ (read_back x.adj (omega (arith, (widest (fit x f)).adj.most))) (read_nat m (omega arith))

-- the gain and the adjustment that the calls give
module _ (x : Instrument) (m i : ℕ) (g a : ℤ) (f : instrument_fits x ≡ true) (h : m ≤ 200) (g_fits : mag g < 2 ^ 63) (is : g ≡ shift x m i) where
  -- down the scale: the loss
  loss : (pos 0 -ℤ to_z w64 (of_z w64 g)) ≡ neg_ℤ (shift x m i)
  loss = ap (λ z. pos 0 -ℤ z) (back _ g_fits ∙ is) ∙ +ℤ_idl _

  module _ (a_fits : mag a < 2 ^ 63) (of : a ≡ (to_z w64 (of_z w64 x.adj) *ℤ to_z w64 m)) where
    -- up the scale: the gain less the adjustment
    up : (to_z w64 (of_z w64 g) -ℤ to_z w64 (of_z w64 a)) ≡ rising x m i
    up = ap₂ ◌-ℤ◌ (back _ g_fits ∙ is) (back _ a_fits ∙ of ∙ factors x m f h)

    -- and the loss less the adjustment
    down : (l : ℤ) → mag l < 2 ^ 63 → l ≡ (pos 0 -ℤ to_z w64 (of_z w64 g)) → (to_z w64 (of_z w64 l) -ℤ to_z w64 (of_z w64 a)) ≡ falling x m i
    down l k e = ap₂ ◌-ℤ◌ (back _ k ∙ e ∙ loss) (back _ a_fits ∙ of ∙ factors x m f h)

pub times-adjustment-requires : goal.times-adjustment-requires
times-adjustment-requires c =
    let h = adj_most c.args.self.now.instrument c.args.self.now.fits (c.args.self.now.points - 1) c.args.i (omega (arith, c.args.self.now.least, c.args.self.now.most)) (omega (arith, c.args.self.now.least, c.args.self.now.most)) in
    rw (factors c.args.self.now.instrument (c.args.self.now.points - 1) c.args.self.now.fits (omega (arith, c.args.self.now.least, c.args.self.now.most))) (size_fits _ (omega arith))

pub less-requires : goal.less-requires
less-requires c =
    let g = c.shift-gain in
    let a = c.times-adjustment in
    rw (up c.args.self.now.instrument (c.args.self.now.points - 1) c.args.i g.result a.result c.args.self.now.fits (omega (arith, c.args.self.now.least, c.args.self.now.most)) g.type_inv g.ensures a.type_inv a.ensures)
    (size_fits _ (omega (arith, tilt_most c.args.self.now.instrument c.args.self.now.fits (c.args.self.now.points - 1) c.args.i (omega (arith, c.args.self.now.least, c.args.self.now.most)) (omega (arith, c.args.self.now.least, c.args.self.now.most)) true)))

pub less-requires-else-up : goal.less-requires-else-up
less-requires-else-up c =
    let g = c.shift-gain in
    let h = shift_most c.args.self.now.instrument c.args.self.now.fits (c.args.self.now.points - 1) c.args.i (omega (arith, c.args.self.now.least, c.args.self.now.most)) (omega (arith, c.args.self.now.least, c.args.self.now.most)) in
    rw (loss c.args.self.now.instrument (c.args.self.now.points - 1) c.args.i g.result g.result c.args.self.now.fits (omega (arith, c.args.self.now.least, c.args.self.now.most)) g.type_inv g.ensures)
    (size_fits _ (omega (arith, size_neg (shift c.args.self.now.instrument (c.args.self.now.points - 1) c.args.i))))

pub less-requires-else-up-2 : goal.less-requires-else-up-2
less-requires-else-up-2 c =
    let g = c.shift-gain in
    let a = c.times-adjustment in
    let l = c.less-else-up in
    rw (down c.args.self.now.instrument (c.args.self.now.points - 1) c.args.i g.result a.result c.args.self.now.fits (omega (arith, c.args.self.now.least, c.args.self.now.most)) g.type_inv g.ensures a.type_inv a.ensures l.result l.type_inv l.ensures)
    (size_fits _ (omega (arith, tilt_most c.args.self.now.instrument c.args.self.now.fits (c.args.self.now.points - 1) c.args.i (omega (arith, c.args.self.now.least, c.args.self.now.most)) (omega (arith, c.args.self.now.least, c.args.self.now.most)) false)))

pub returns-then-up : goal.returns-then-up
returns-then-up c =
    let g = c.shift-gain in
    let a = c.times-adjustment in
    rw c.if-up.true
    (back _ c.less.type_inv
    ∙ c.less.ensures
    ∙ up c.args.self.now.instrument (c.args.self.now.points - 1) c.args.i g.result a.result c.args.self.now.fits (omega (arith, c.args.self.now.least, c.args.self.now.most)) g.type_inv g.ensures a.type_inv a.ensures)

pub returns-else-up : goal.returns-else-up
returns-else-up c =
    let g = c.shift-gain in
    let a = c.times-adjustment in
    let l = c.less-else-up in
    rw c.if-up.false
    (back _ c.less-else-up-2.type_inv
    ∙ c.less-else-up-2.ensures
    ∙ down c.args.self.now.instrument (c.args.self.now.points - 1) c.args.i g.result a.result c.args.self.now.fits (omega (arith, c.args.self.now.least, c.args.self.now.most)) g.type_inv g.ensures a.type_inv a.ensures l.result l.type_inv l.ensures)
