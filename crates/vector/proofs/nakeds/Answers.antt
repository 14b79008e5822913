use Rattle.std.proofs.Common.{◌∙◌, ap, ◌+◌, arith}
use lib.IntN.{+ℤ_idr}
use Rattle.paper.specs.Sums.{sum}
use Rattle.paper.specs.Products.{naked_total}
use Rattle.paper.specs.Answers.{add_naked}
use Rattle.amount.proofs.Ints.{back}
use Rattle.vector.specs.Parts.{naked_at}
use Rattle.vector.proofs.Gross.{sum_next}
use Rattle.vector.proofs.Book.{nakeds_fit}
use Rattle.vector.proofs.nakeds.Goals as goal

pub loop-i-init : goal.loop-i-init
unfolding sum
loop-i-init c = rw +ℤ_idr

pub with_naked-totals-requires : goal.with_naked-totals-requires
with_naked-totals-requires c =
    let l = c.loop-i in
    let s = c.args in
    let z = c.naked_at in
    rw (back _ z.type_inv, z.ensures, l.invariant, sum_next s.t.naked l.i (naked_at s.book.now.bytes.now s.book.now.shape))
    (nakeds_fit s.book.now.bytes.now s.book.now.shape s.book.now.sound (l.i + 1) s.t.naked (omega arith) c.requires)

pub loop-i-preserved : goal.loop-i-preserved
loop-i-preserved c =
    let l = c.loop-i in
    let s = c.args in
    let z = c.naked_at in
    c.with_naked-totals.ensures ∙ rw (back _ z.type_inv, z.ensures, l.invariant, sum_next s.t.naked l.i (naked_at s.book.now.bytes.now s.book.now.shape))

pub returns : goal.returns
unfolding naked_total
returns c =
    let l = c.loop-i in
    let s = c.args in
    l.invariant ∙ ap (λ n. add_naked s.t (sum n (naked_at s.book.now.bytes.now s.book.now.shape))) (omega arith)
