use Rattle.std.proofs.Common.{◌-◌, ◌≡◌, ◌∙◌, ap₂, arith, ◌-ℤ◌, ◌*ℤ◌, ◌*◌, to_z, of_z}
use Rattle.std.specs.Int.{w64}
use Rattle.paper.specs.Products.{shift}
use Rattle.amount.proofs.Ints.{back}
use Rattle.vector.proofs.Signs.{size_fits, read_back, read_nat}
use Rattle.vector.proofs.Ranges.{fit, widest}
use Rattle.vector.proofs.Bounds.{shift_most}
use Rattle.vector.proofs.Item.shift.Goals as goal

-- the two factors, read back
pub times-requires : goal.times-requires
times-requires c =
    let h = shift_most c.args.self.now.instrument c.args.self.now.fits (c.args.self.now.points - 1) c.args.i (omega (arith, c.args.self.now.least, c.args.self.now.most)) (omega (arith, c.args.self.now.least, c.args.self.now.most)) in
    let e : (to_z w64 (of_z w64 c.args.self.now.instrument.par) *ℤ to_z w64 (of_z w64 c.less-off.result)) ≡ shift c.args.self.now.instrument (c.args.self.now.points - 1) c.args.i =
    ap₂ ◌*ℤ◌
    (read_back c.args.self.now.instrument.par (omega (arith, (widest (fit c.args.self.now.instrument c.args.self.now.fits)).par.most)))
    (back _ c.less-off.type_inv
    ∙ c.less-off.ensures
    ∙ ap₂ ◌-ℤ◌ (read_nat (2 * c.args.i) (omega arith)) (read_nat (c.args.self.now.points - 1) (omega arith))) in
    rw e (size_fits _ (omega arith))
