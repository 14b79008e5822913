use Rattle.std.proofs.Common.{◌-◌, ◌≡◌, ◌∙◌, ap₂, ◌*ℤ◌, to_z, of_z, arith}
use Rattle.std.specs.Int.{w64}
use Rattle.amount.proofs.Ints.{back}
use Rattle.vector.proofs.Signs.{size_fits, read_back}
use Rattle.vector.proofs.Ranges.{fit, widest}
use Rattle.vector.proofs.Bounds.{tilt, bond_most}
use Rattle.vector.proofs.Item.bond.Goals as goal

pub times-numerator-requires : goal.times-numerator-requires
times-numerator-requires c =
    let e : (to_z w64 (of_z w64 c.args.self.now.instrument.today) *ℤ to_z w64 (of_z w64 c.tilt.result)) ≡ (c.args.self.now.instrument.today *ℤ tilt c.args.self.now.instrument (c.args.self.now.points - 1) c.args.buys c.args.i) =
    ap₂ ◌*ℤ◌ (read_back c.args.self.now.instrument.today (omega (arith, (widest (fit c.args.self.now.instrument c.args.self.now.fits)).today.most))) (back _ c.tilt.type_inv ∙ c.tilt.ensures) in
    rw e (size_fits _ (bond_most c.args.self.now.instrument c.args.self.now.fits (c.args.self.now.points - 1) c.args.i (omega (arith, c.args.self.now.least, c.args.self.now.most)) (omega (arith, c.args.self.now.least, c.args.self.now.most)) c.args.buys))

pub nearest-requires : goal.nearest-requires
nearest-requires c =
    let e : to_z w64 (of_z w64 c.times-numerator.result) ≡ (c.args.self.now.instrument.today *ℤ tilt c.args.self.now.instrument (c.args.self.now.points - 1) c.args.buys c.args.i) =
    back _ c.times-numerator.type_inv
    ∙ c.times-numerator.ensures
    ∙ ap₂ ◌*ℤ◌ (read_back c.args.self.now.instrument.today (omega (arith, (widest (fit c.args.self.now.instrument c.args.self.now.fits)).today.most))) (back _ c.tilt.type_inv ∙ c.tilt.ensures) in
    rw e (omega (arith, bond_most c.args.self.now.instrument c.args.self.now.fits (c.args.self.now.points - 1) c.args.i (omega (arith, c.args.self.now.least, c.args.self.now.most)) (omega (arith, c.args.self.now.least, c.args.self.now.most)) c.args.buys))
