use Rattle.std.proofs.Common.{◌≡◌, ◌∙◌, ap, ap₂, ℕ, suc, ◌+◌, ◌-◌, ◌≤◌, ℤ, pos, get_or, to_z, of_z, arith, rules}
use Rattle.std.specs.Int.{w64}
use native.Mathlib.Nat.{sub_self}
use Rattle.paper.specs.Sums.{worse, lowest}
use Rattle.amount.proofs.Ints.{back}
use Rattle.amount.proofs.lowest_from.Goals as goal

-- one entry more
more : (v : ℕ → ℤ) (from y : ℕ) → from ≤ y → worse (lowest v from (y - from)) (v (y + 1)) ≡ lowest v from ((y + 1) - from)
unfolding lowest
more v from y h = let e : (y + 1) - from ≡ suc (y - from) = omega arith in let k : from + suc (y - from) ≡ y + 1 = omega arith in simp (e, k)

-- the first entry alone
one : (v : ℕ → ℤ) (from : ℕ) → v from ≡ lowest v from (from - from)
unfolding lowest
one v from = rw sub_self

pub loop-y-init : goal.loop-y-init
loop-y-init c =
    let v = c.args.v.now in
    let e : to_z w64 (of_z w64 (get_or v c.args.from (pos 0))) ≡ get_or v c.args.from (pos 0) = search rules in
    e ∙ one (λ y. get_or v y (pos 0)) c.args.from

pub loop-y-preserved : goal.loop-y-preserved
loop-y-preserved c =
    let l = c.loop-y in
    let v = c.args.v.now in
    let e : to_z w64 (of_z w64 (get_or v (l.y + 1) (pos 0))) ≡ get_or v (l.y + 1) (pos 0) = search rules in
    back _ c.worse-low.type_inv ∙ c.worse-low.ensures ∙ ap₂ worse l.invariant e ∙ more (λ y. get_or v y (pos 0)) c.args.from l.y l.auto.y

pub returns : goal.returns
returns c = c.loop-y.invariant ∙ ap (λ (y : ℕ). lowest (λ y. get_or c.args.v.now y (pos 0)) c.args.from (y - c.args.from)) (omega arith)
