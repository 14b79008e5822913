use Rattle.std.proofs.Common.{◌∙◌, ◌-◌, ◌*◌, ◌<◌, ◌≤◌, length, arith}
use Rattle.paper.specs.Answers.{walk_of}
use Rattle.amount.proofs.Lists.{row_end}
use Rattle.tree.proofs.Bounds.{fits}
use Rattle.tree.proofs.Book.{valid, bounds}
use Rattle.tree.proofs.Buffers.{with_rest}
use Rattle.tree.proofs.Filled.{within, result_part, row_done, rows_are}
use Rattle.tree.proofs.fill_rows.Goals as goal

pub fill_row-requires : goal.fill_row-requires
fill_row-requires c =
    let b = c.args.book.now in
    let l = c.loop-k in
    let k = l.k - 1 in
    let h : k < b.shape.classes = omega arith in
    let room : b.shape.classes * b.shape.points ≤ length l.rows = omega arith in (
      h,
      room,
      λ x n m g a d.
          rw (result_part (walk_of b.bytes.now b.shape).tree (valid _ _ b.sound) l.rows k h room (λ j y u v w. l.invariant.done j y (omega arith) v w) x n m g a)
          (fits _ ((bounds _ _ b.sound).row_part k x n m h g a d)),
    )

pub loop-k-preserved : goal.loop-k-preserved
loop-k-preserved c =
    let b = c.args.book.now in
    let l = c.loop-k in
    let s = b.shape in
    let t = (walk_of b.bytes.now s).tree in
    let k = l.k - 1 in
    let h : k < s.classes = omega arith in
    let room : s.classes * s.points ≤ length l.rows = omega arith in
    record {
      rest = rw c.fill_row.ensures
          (with_rest s.points l.rows k (within t (valid _ _ b.sound) l.rows k h room) _ _ (row_end k s.classes s.points h)
          ∙ l.invariant.rest);
      done = rw c.fill_row.ensures
          (row_done t (valid _ _ b.sound) l.rows k h room (λ j y u v w. l.invariant.done j y (omega arith) v w));
    }

pub returns : goal.returns
returns c =
    let b = c.args.book.now in
    rows_are (walk_of b.bytes.now b.shape) c.loop-k.rows c.args.rows.now (omega arith) c.loop-k.invariant.rest
    (λ k x h g. c.loop-k.invariant.done k x (omega arith) h g)
