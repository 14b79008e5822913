use Rattle.std.proofs.Common.{◌≡◌, ◌∙◌, arith}
use Rattle.paper.specs.Windows.{chosen_near}
use Rattle.amount.proofs.Lists.{listed_length}
use Rattle.window.proofs.Near.{chosen_is}
use Rattle.tree.specs.Buffers.{rows_in}
use Rattle.tree.proofs.Read.{chosen_listed}
use Rattle.tree.proofs.row.chosen_in.Goals as goal

pub chosen_near-requires : goal.chosen_near-requires
chosen_near-requires c =
    let p = c.args.points in
    rw (c.part.ensures, listed_length p (rows_in p c.args.rows.now c.args.k)) c.requires.2

pub overflow_cast-result : goal.overflow_cast-result
overflow_cast-result c =
    let p = c.args.points in
    let v = rows_in p c.args.rows.now c.args.k in
    let e : c.chosen_near.result ≡ chosen_near p v c.args.r c.args.x = c.chosen_near.ensures ∙ rw c.part.ensures (chosen_listed p v c.args.r c.args.x c.requires.2) in
    omega (arith, e, (chosen_is p v c.args.r c.args.x c.requires.2).on)

pub returns : goal.returns
returns c =
    let p = c.args.points in
    c.chosen_near.ensures ∙ rw c.part.ensures (chosen_listed p (rows_in p c.args.rows.now c.args.k) c.args.r c.args.x c.requires.2)
