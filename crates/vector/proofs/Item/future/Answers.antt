use Rattle.std.proofs.Common.{◌-◌, ◌≡◌, ◌∙◌, ap, not, ◌*◌, to_z, of_z, arith}
use Rattle.std.specs.Int.{w64}
use Rattle.paper.specs.Rounding.{nearest}
use Rattle.amount.proofs.Ints.{back}
use Rattle.vector.proofs.Signs.{size_fits}
use Rattle.vector.proofs.Bounds.{tilt, tilt_most, hundredths_most}
use Rattle.vector.proofs.Item.future.Goals as goal

pub hundredths-requires : goal.hundredths-requires
hundredths-requires c =
    let e : to_z w64 (of_z w64 c.tilt.result) ≡ tilt c.args.self.now.instrument (c.args.self.now.points - 1) (not c.args.buys) c.args.i = back _ c.tilt.type_inv ∙ c.tilt.ensures in
    rw e (omega (arith, tilt_most c.args.self.now.instrument c.args.self.now.fits (c.args.self.now.points - 1) c.args.i (omega (arith, c.args.self.now.least, c.args.self.now.most)) (omega (arith, c.args.self.now.least, c.args.self.now.most)) (not c.args.buys)))

pub times-requires : goal.times-requires
times-requires c =
    let e : to_z w64 (of_z w64 c.hundredths.result) ≡ nearest (tilt c.args.self.now.instrument (c.args.self.now.points - 1) (not c.args.buys) c.args.i) (100 * (c.args.self.now.points - 1)) =
    back _ c.hundredths.type_inv
    ∙ c.hundredths.ensures
    ∙ ap (λ z. nearest z (100 * (c.args.self.now.points - 1))) (back _ c.tilt.type_inv ∙ c.tilt.ensures) in
    rw e (size_fits _ (hundredths_most c.args.self.now.instrument c.args.self.now.fits (c.args.self.now.points - 1) c.args.i (omega (arith, c.args.self.now.least, c.args.self.now.most)) (omega (arith, c.args.self.now.least, c.args.self.now.most)) (not c.args.buys) (omega (arith, c.args.self.now.least, c.args.self.now.most))))
