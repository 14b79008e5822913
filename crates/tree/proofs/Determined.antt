-- Each public function's contract allows one outcome: one result, or one content of the buffer that it writes.
-- Assumes nothing.
use Rattle.amount.proofs.Outcomes.{OneOutcome, OneResult, coincide}
use Rattle.tree.proofs.fill_row.Reads as fill-row-reads
use Rattle.tree.proofs.fill_rows.Reads as fill-rows-reads
use Rattle.tree.proofs.held.HeldRows.cross.Reads as cross-reads
use Rattle.tree.proofs.held.HeldRows.choose.Reads as choose-reads
use Rattle.tree.proofs.row.clear_row.Reads as clear-row-reads
use Rattle.tree.proofs.row.slide_row.Reads as slide-row-reads
use Rattle.tree.proofs.row.add_row.Reads as add-row-reads
use Rattle.tree.proofs.row.lowest_in.Reads as lowest-in-reads
use Rattle.tree.proofs.row.chosen_in.Reads as chosen-in-reads
use Rattle.tree.proofs.held.HeldRows.lowest.Reads as lowest-reads
use Rattle.tree.proofs.held.HeldRows.chosen.Reads as chosen-reads
use Rattle.tree.proofs.terms.parent_of.Reads as parent-of-reads
use Rattle.tree.proofs.terms.reach_of.Reads as reach-of-reads
use Rattle.tree.proofs.terms.home_of.Reads as home-of-reads
use Rattle.tree.proofs.held.HeldRows.choose_classes.Reads as choose-classes-reads
use Rattle.tree.proofs.choice.choose_items.Reads as choose-items-reads

-- the rows at exit
fill_row : OneOutcome (λ κs x e. e.1.0.now) fill-row-reads.Post
fill_row κs a x y e f = coincide

fill_rows : OneOutcome (λ κs x e. e.1.0.now) fill-rows-reads.Post
fill_rows κs a x y e f = coincide

cross : OneResult cross-reads.Post
cross κs a x y e f = coincide

-- the choice at exit
choose : OneOutcome (λ κs x e. e.1.0.now) choose-reads.Post
choose κs a x y e f = coincide

-- what the crate's own modules offer each other
clear_row : OneOutcome (λ κs x e. e.0.now) clear-row-reads.Post
clear_row κs a x y e f = coincide

slide_row : OneOutcome (λ κs x e. e.0.now) slide-row-reads.Post
slide_row κs a x y e f = coincide

add_row : OneOutcome (λ κs x e. e.0.now) add-row-reads.Post
add_row κs a x y e f = coincide

lowest_in : OneResult lowest-in-reads.Post
lowest_in κs a x y e f = coincide

chosen_in : OneResult chosen-in-reads.Post
chosen_in κs a x y e f = coincide

lowest : OneResult lowest-reads.Post
lowest κs a x y e f = coincide

chosen : OneResult chosen-reads.Post
chosen κs a x y e f = coincide

parent_of : OneResult parent-of-reads.Post
parent_of κs a x y e f = coincide

reach_of_lem : OneResult reach-of-reads.Post
reach_of_lem κs a x y e f = coincide

home_of : OneResult home-of-reads.Post
home_of κs a x y e f l r = coincide l.0 r.0

choose_classes : OneOutcome (λ κs x e. e.1.0.now) choose-classes-reads.Post
choose_classes κs a x y e f = coincide

choose_items : OneOutcome (λ κs x e. e.1.0.now) choose-items-reads.Post
choose_items κs a x y e f = coincide
