use Rattle.std.proofs.Common.{◌≡◌, ◌∙◌, ap, refl, ℕ, ◌+◌, ◌<◌, ◌^◌, ℤ, ◌+ℤ◌, to_z, of_z, arith}
use Rattle.std.specs.Int.{w64}
use Rattle.std.specs.Int.Signed.{mag}
use Rattle.std.proofs.Math.Numerals.{add-one}
use Rattle.paper.specs.Sums.{sum}
use Rattle.paper.specs.Products.{mark_of_item}
use Rattle.amount.proofs.Ints.{back}
use Rattle.vector.specs.Parts.{mark_for}
use Rattle.vector.proofs.Book.{marked_fit}
use Rattle.vector.proofs.marked.Goals as goal

pub loop-k-init : goal.loop-k-init
unfolding sum
loop-k-init c = refl

-- one position more, and what is added read back
more : (n : ℕ) (f : ℕ → ℤ) (t z : ℤ) → t ≡ sum n f → mag z < 2 ^ 63 → z ≡ f n → (t +ℤ to_z w64 (of_z w64 z)) ≡ sum (n + 1) f
unfolding sum
more n f t z e k h = rw (back _ k, h, e, add-one)

pub plus-total-requires : goal.plus-total-requires
plus-total-requires c =
    let l = c.loop-k in
    let s = c.args in
    rw (more l.k (mark_for s.book.now.bytes.now s.book.now.shape s.i) _ c.mark_for.result l.invariant c.mark_for.type_inv c.mark_for.ensures)
    (marked_fit s.book.now.bytes.now s.book.now.shape s.book.now.sound (l.k + 1) s.i (omega arith))

pub loop-k-preserved : goal.loop-k-preserved
loop-k-preserved c =
    let l = c.loop-k in
    let s = c.args in
    back _ c.plus-total.type_inv
    ∙ c.plus-total.ensures
    ∙ more l.k (mark_for s.book.now.bytes.now s.book.now.shape s.i) _ c.mark_for.result l.invariant c.mark_for.type_inv c.mark_for.ensures

pub returns : goal.returns
unfolding mark_of_item
returns c =
    let l = c.loop-k in
    let s = c.args in
    l.invariant ∙ ap (λ n. sum n (mark_for s.book.now.bytes.now s.book.now.shape s.i)) (omega arith)
