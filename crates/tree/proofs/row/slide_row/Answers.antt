use Rattle.std.proofs.Common.{◌*◌}
use native.Mathlib.Nat.{add-sub_cancel_left}
use Rattle.tree.specs.Buffers.{with_row}
use Rattle.tree.proofs.Buffers.{slid_part}
use Rattle.tree.proofs.row.slide_row.Goals as goal

pub returns : goal.returns
unfolding with_row
returns c =
    rw (c.slide.ensures, add-sub_cancel_left, slid_part (c.args.k * c.args.points) c.args.points c.args.rows.now c.args.v.now c.args.r c.requires.0 c.requires.1)
