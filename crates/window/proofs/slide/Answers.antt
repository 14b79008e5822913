use Rattle.std.proofs.Common.{◌≡◌, ◌∙◌, sym, ◌<◌, length, pos, get_or, to_z, of_z, arith, rules}
use Rattle.std.specs.Int.{w64}
use Rattle.amount.proofs.Ints.{back}
use Rattle.amount.proofs.Lists.{filled_at, filled_set, filled_all}
use Rattle.window.specs.Slides.{entry_of, slid_at, slid}
use Rattle.window.proofs.Slides.{slid_length, slid_at_lem}
use Rattle.window.proofs.slide.Goals as goal

pub loop-x-preserved : goal.loop-x-preserved
loop-x-preserved c =
    let s = c.args.row.now in
    let v = c.args.v.now in
    let x = c.loop-x.x in
    let h : x < length s = c.loop-x-test.true in
    let p : to_z w64 (of_z w64 (get_or c.loop-x.row x (pos 0))) ≡ get_or c.loop-x.row x (pos 0) = search rules in
    let sum : c.plus.result ≡ slid_at s v c.args.r x =
    c.plus.ensures ∙ rw (p, back _ c.lowest_near.type_inv, c.lowest_near.ensures, c.loop-x.invariant, filled_at _ _ (slid_length s v c.args.r) x (pos 0) h) in
    let e : c.plus.result ≡ entry_of (slid s v c.args.r) x = sum ∙ sym (slid_at_lem s v c.args.r x h) in
    rw (back _ c.plus.type_inv, c.loop-x.invariant) (filled_set _ _ (slid_length s v c.args.r) x (pos 0) _ h e)

pub returns : goal.returns
returns c = c.loop-x.invariant ∙ filled_all _ _ (slid_length c.args.row.now c.args.v.now c.args.r) c.loop-x.x (omega arith)
