-- The call's contract allows one outcome: both buffers and the five numbers at exit. Assumes nothing.
use mathlib.Core.Path.{ap}
use Rattle.paper.specs.declared.Totals.{Totals}
use Rattle.amount.proofs.Outcomes.{OneOutcome, coincide}
use Rattle.desk.proofs.desk_run.Reads as desk-run-reads

rows : OneOutcome (λ κs x e. e.1.0.now) desk-run-reads.Post
rows κs a x y e f p q = coincide p.rows_hold q.rows_hold

choice : OneOutcome (λ κs x e. e.1.1.0.now) desk-run-reads.Post
choice κs a x y e f p q = coincide p.choice_holds q.choice_holds

code : OneOutcome (λ κs x e. e.1.1.1.0.now) desk-run-reads.Post
code κs a x y e f p q = coincide p.code_is q.code_is

place : OneOutcome (λ κs x e. e.1.1.1.1.0.now) desk-run-reads.Post
place κs a x y e f p q = coincide p.place_is q.place_is

mark : OneOutcome (λ κs x e. e.1.1.1.1.1.0.now) desk-run-reads.Post
mark κs a x y e f p q = ap (λ (t : Totals). t.mark) (coincide p.totals_are q.totals_are)

naked : OneOutcome (λ κs x e. e.1.1.1.1.1.1.0.now) desk-run-reads.Post
naked κs a x y e f p q = ap (λ (t : Totals). t.naked) (coincide p.totals_are q.totals_are)

cross : OneOutcome (λ κs x e. e.1.1.1.1.1.1.1.0.now) desk-run-reads.Post
cross κs a x y e f p q = ap (λ (t : Totals). t.cross) (coincide p.totals_are q.totals_are)
