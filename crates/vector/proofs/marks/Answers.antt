use Rattle.std.proofs.Common.{◌∙◌, ap, ◌+◌, arith}
use lib.IntN.{+ℤ_idr}
use Rattle.paper.specs.Sums.{sum}
use Rattle.paper.specs.Products.{mark_total}
use Rattle.paper.specs.Answers.{add_mark}
use Rattle.amount.proofs.Ints.{back}
use Rattle.vector.specs.Parts.{mark_at}
use Rattle.vector.proofs.Gross.{sum_next}
use Rattle.vector.proofs.Book.{marks_fit}
use Rattle.vector.proofs.marks.Goals as goal

pub loop-p-init : goal.loop-p-init
unfolding sum
loop-p-init c = rw +ℤ_idr

pub with_mark-totals-requires : goal.with_mark-totals-requires
with_mark-totals-requires c =
    let l = c.loop-p in
    let s = c.args in
    let z = c.mark_at in
    rw (back _ z.type_inv, z.ensures, l.invariant, sum_next s.t.mark l.p (mark_at s.book.now.bytes.now s.book.now.shape))
    (marks_fit s.book.now.bytes.now s.book.now.shape s.book.now.sound (l.p + 1) s.t.mark (omega arith) c.requires)

pub loop-p-preserved : goal.loop-p-preserved
loop-p-preserved c =
    let l = c.loop-p in
    let s = c.args in
    let z = c.mark_at in
    c.with_mark-totals.ensures ∙ rw (back _ z.type_inv, z.ensures, l.invariant, sum_next s.t.mark l.p (mark_at s.book.now.bytes.now s.book.now.shape))

pub returns : goal.returns
unfolding mark_total
returns c =
    let l = c.loop-p in
    let s = c.args in
    l.invariant ∙ ap (λ n. add_mark s.t (sum n (mark_at s.book.now.bytes.now s.book.now.shape))) (omega arith)
