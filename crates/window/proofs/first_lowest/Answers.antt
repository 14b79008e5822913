use Rattle.std.proofs.Common.{◌≡◌, ◌∙◌, ap, ℕ, ◌+◌, ◌-◌, ◌≤◌, suc, true, false, to_z, of_z, arith, rules}
use Rattle.std.specs.Int.{w64}
use Rattle.std.specs.Int.Signed.{lt_z}
use Rattle.amount.proofs.Ints.{ints}
use Rattle.window.specs.Slides.{entry_of, first_lowest}
use Rattle.window.proofs.First.{first_lowest_only, first_one, first_next, first_kept}
use Rattle.window.proofs.first_lowest.Goals.{then-v-y, else-v-y}
use Rattle.window.proofs.first_lowest.Goals as goal

-- the points before y + 1 are one more than those before y
one_more : (y : ℕ) → 1 ≤ y → (y + 1 - 1 ≡ suc (y - 1)) × (0 + suc (y - 1) ≡ y)
one_more y h = omega arith

pub loop-y-init : goal.loop-y-init
loop-y-init c = record { on = search rules; lowest = first_one (entry_of c.args.v.now) 0 }

pub loop-y-preserved : goal.loop-y-preserved
loop-y-preserved c =
    let v = entry_of c.args.v.now in
    let l = c.loop-y in
    let p : to_z w64 (of_z w64 (v l.y)) ≡ v l.y = search rules in
    let q : to_z w64 (of_z w64 (v l.first)) ≡ v l.first = search rules in
    let e = one_more l.y l.auto.y in
    elim c.if-v-y.branch [
      | then-v-y w ↦
          let t : lt_z (v l.y) (v l.first) ≡ true = rw (p, q) at w.if-v-y.true in
          record { on = search rules; lowest = rw (w.first-is, e.0) (rw e.1 at (first_next v 0 (l.y - 1) l.first l.invariant.lowest (rw e.1 (omega (ints, t))))) }
      | else-v-y w ↦
          let t : lt_z (v l.y) (v l.first) ≡ false = rw (p, q) at w.if-v-y.false in
          record { on = search rules; lowest = rw (w.first-is, e.0) (first_kept v 0 (l.y - 1) l.first l.invariant.lowest (rw e.1 (omega (ints, t)))) }
    ]

pub returns : goal.returns
returns c = first_lowest_only c.loop-y.invariant.lowest ∙ ap (λ (y : ℕ). first_lowest (entry_of c.args.v.now) 0 y) (omega arith)
