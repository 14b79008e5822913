use Rattle.std.proofs.Common.{◌∙◌}
use Rattle.amount.proofs.Ints.{back}
use Rattle.amount.proofs.Lists.{listed_length}
use Rattle.tree.specs.Buffers.{rows_in}
use Rattle.tree.proofs.Buffers.{lowest_listed}
use Rattle.tree.proofs.row.lowest_in.Goals as goal

pub lowest-requires : goal.lowest-requires
lowest-requires c =
    let p = c.args.points in
    rw (c.part.ensures, listed_length p (rows_in p c.args.rows.now c.args.k)) c.requires.1

pub returns : goal.returns
returns c =
    let p = c.args.points in
    back _ c.lowest.type_inv ∙ c.lowest.ensures ∙ rw c.part.ensures (lowest_listed p (rows_in p c.args.rows.now c.args.k) c.requires.1)
