use Rattle.std.proofs.Common.{◌≡◌, ◌∙◌, ap, sym, ℕ, ◌<◌, ◌^◌, ℤ, pos, nat_abs, ◌-ℤ◌, ◌<ℤ◌, ◌≤ℤ◌, ◌≤◌, to_z, of_z, true, false, arith, rules}
use Rattle.std.proofs.Math.Facts.{to_z-of_z}
use Rattle.std.specs.Int.{w64}
use Rattle.std.specs.Int.Signed.{lt_z}
use Rattle.paper.specs.Rounding.{nearest_size}
use Rattle.amount.proofs.Ints.{ints, back}
use Rattle.amount.proofs.Rounding.{size_small, nearest_loss, nearest_gain}
use Rattle.amount.proofs.nearest.Goals as goal

-- a rounded size, read as an amount
held : (s d n : ℕ) → n ≡ nearest_size s d → s ≤ 4000000000000000000 → 0 < d → to_z w64 n ≡ pos (nearest_size s d)
held s d n e h k =
    let small : n < 2 ^ 63 = omega (arith, e, size_small s d k) in
    back (pos n) small ∙ ap pos e

-- and its negative
turned : (n : ℕ) → n < 2 ^ 63 → to_z w64 (of_z w64 (pos 0 -ℤ pos n)) ≡ (pos 0 -ℤ pos n)
turned n h = to_z-of_z {w = w64} (omega ints)

pub returns-then-z-lt0 : goal.returns-then-z-lt0
returns-then-z-lt0 c =
    let t : lt_z c.args.z (pos 0) ≡ true = simp (to_z-of_z c.ranges.z) at c.if-z-lt0.true in
    let l : c.args.z <ℤ pos 0 = omega ints in
    let e : c.nearest_size-near.result ≡ nearest_size (nat_abs c.args.z) c.args.d = search rules in
    let small : nearest_size (nat_abs c.args.z) c.args.d < 2 ^ 63 = omega (arith, size_small (nat_abs c.args.z) c.args.d c.requires.1) in
    ap (λ (z : ℤ). to_z w64 (of_z w64 (pos 0 -ℤ z))) (held _ _ _ e c.requires.0 c.requires.1)
    ∙ turned _ small
    ∙ sym (nearest_loss c.args.z c.args.d l)

pub returns-else-z-lt0 : goal.returns-else-z-lt0
returns-else-z-lt0 c =
    let t : lt_z c.args.z (pos 0) ≡ false = simp (to_z-of_z c.ranges.z) at c.if-z-lt0.false in
    let l : pos 0 ≤ℤ c.args.z = omega ints in
    let e : c.nearest_size-near.result ≡ nearest_size (nat_abs c.args.z) c.args.d = search rules in
    held _ _ _ e c.requires.0 c.requires.1 ∙ sym (nearest_gain c.args.z c.args.d l)
