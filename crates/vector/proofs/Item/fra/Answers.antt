use Rattle.std.proofs.Common.{◌-◌, ◌≡◌, ◌∙◌, to_z, of_z, arith, rules}
use Rattle.std.specs.Int.{w64}
use Rattle.amount.proofs.Ints.{back}
use Rattle.vector.proofs.Bounds.{tilt, fra_most}
use Rattle.vector.proofs.Item.fra.Goals as goal

pub ore-requires : goal.ore-requires
ore-requires c =
    let e : to_z w64 (of_z w64 c.tilt.result) ≡ tilt c.args.self.now.instrument (c.args.self.now.points - 1) c.args.buys c.args.i = back _ c.tilt.type_inv ∙ c.tilt.ensures in
    rw e (fra_most c.args.self.now.instrument c.args.self.now.fits (c.args.self.now.points - 1) c.args.i (omega (arith, c.args.self.now.least, c.args.self.now.most)) (omega (arith, c.args.self.now.least, c.args.self.now.most)) c.args.buys, search rules, omega arith)
