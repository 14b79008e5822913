use Rattle.std.proofs.Common.{◌≡◌, ◌∙◌, List, ℕ, ℤ, ◌++◌, ◌+◌, ◌-◌, ◌*◌, take}
use native.Mathlib.Nat.{add-sub_cancel_left}
use lib.Seq.{take_at}
use Rattle.paper.specs.Sums.{listed}
use Rattle.amount.proofs.Lists.{listed_length}
use Rattle.tree.specs.Buffers.{rows_in, RowWithin, part_of}
use Rattle.tree.proofs.Buffers.{near_listed, part_is, part_length, with_cong}
use Rattle.tree.proofs.row.add_row.Goals as goal

-- what the first entries of the working array hold once row c is copied: row c
held :
    (p c : ℕ) (rows copied rest : List ℤ) → RowWithin p rows c → copied ≡ part_of (c * p) (c * p + p - c * p) rows →
    take p (copied ++ rest) ≡ listed p (rows_in p rows c)
held p c rows copied rest h e =
    rw (e, add-sub_cancel_left) (take_at _ rest p (part_length (c * p) p rows h) ∙ part_is (c * p) p rows h)

pub slide_row-requires : goal.slide_row-requires
slide_row-requires c =
    let p = c.args.points in
    let v = rows_in p c.args.rows.now c.args.c in
    rw (held p c.args.c c.args.rows.now _ _ c.requires.2 c.copy_from_slice.ensures.after) (
      c.requires.1,
      listed_length p v,
      λ x l. rw (near_listed p v c.args.r x l) (c.requires.3 x l),
    )

pub returns : goal.returns
returns c =
    let p = c.args.points in
    let v = rows_in p c.args.rows.now c.args.c in
    c.slide_row.ensures
    ∙ rw (held p c.args.c c.args.rows.now _ _ c.requires.2 c.copy_from_slice.ensures.after)
    (with_cong p c.args.rows.now c.args.k c.requires.1 (λ x l. rw (near_listed p v c.args.r x l)))
