use Rattle.std.proofs.Common.{◌∙◌, ap, ◌+◌, arith}
use lib.IntN.{+ℤ_idr}
use Rattle.paper.specs.Sums.{sum}
use Rattle.paper.specs.Trees.{cross_of}
use Rattle.paper.specs.Answers.{add_cross, walk_of}
use Rattle.vector.proofs.Gross.{sum_next}
use Rattle.vector.proofs.Book.{on_top}
use Rattle.tree.specs.Buffers.{rows_in, from_root}
use Rattle.tree.proofs.Book.{valid, bounds}
use Rattle.tree.proofs.Read.{cross_part}
use Rattle.tree.proofs.held.HeldRows.cross.Goals as goal

pub loop-k-init : goal.loop-k-init
unfolding sum
loop-k-init c = rw +ℤ_idr

pub with_class-totals-requires : goal.with_class-totals-requires
with_class-totals-requires c =
    let rows = c.args.self.now in
    let b = rows.book in
    let t = (walk_of b.bytes.now b.shape).tree in
    let l = c.loop-k in
    let part = (bounds _ _ b.sound).cross_part (l.k + 1) (omega arith) in (
      omega arith,
      rw (l.invariant, sum_next c.args.t.cross l.k (from_root t (rows_in b.shape.points rows.cells.now)), cross_part t (valid _ _ b.sound) rows.cells.now rows.held (l.k + 1) (omega arith))
          (on_top c.args.t.cross _ c.requires (omega arith)),
    )

pub loop-k-preserved : goal.loop-k-preserved
loop-k-preserved c =
    let rows = c.args.self.now in
    let b = rows.book in
    let l = c.loop-k in
    c.with_class-totals.ensures
    ∙ rw (l.invariant, sum_next c.args.t.cross l.k (from_root (walk_of b.bytes.now b.shape).tree (rows_in b.shape.points rows.cells.now)))

pub returns : goal.returns
unfolding cross_of
returns c =
    let rows = c.args.self.now in
    let b = rows.book in
    c.loop-k.invariant
    ∙ ap (λ n. add_cross c.args.t (sum n (from_root (walk_of b.bytes.now b.shape).tree (rows_in b.shape.points rows.cells.now)))) (omega arith)
