use Rattle.std.proofs.Common.{◌*◌}
use native.Mathlib.Nat.{add-sub_cancel_left}
use Rattle.tree.proofs.Buffers.{part_is}
use Rattle.tree.proofs.row.part.Goals as goal

pub returns : goal.returns
returns c = rw add-sub_cancel_left (part_is (c.args.k * c.args.points) c.args.points c.args.rows.now c.requires)
