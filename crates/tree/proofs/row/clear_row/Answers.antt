use Rattle.std.proofs.Common.{◌*◌}
use native.Mathlib.Nat.{add-sub_cancel_left}
use Rattle.tree.specs.Buffers.{with_row}
use Rattle.tree.proofs.Buffers.{part_length, listed_same}
use Rattle.tree.proofs.row.clear_row.Goals as goal

pub returns : goal.returns
unfolding with_row
returns c =
    let cleared = c.fill.ensures.after (λ y e. e) in
    rw (cleared, add-sub_cancel_left, part_length (c.args.k * c.args.points) c.args.points c.args.rows.now c.requires, listed_same)
