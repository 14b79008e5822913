-- Each public function's contract allows one outcome: one result, and of a slide one row at exit. Assumes nothing.
use Rattle.amount.proofs.Outcomes.{OneOutcome, OneResult, coincide}
use Rattle.window.proofs.width.Reads as width-reads
use Rattle.window.proofs.reach.Reads as reach-reads
use Rattle.window.proofs.lowest_near.Reads as lowest-near-reads
use Rattle.window.proofs.chosen_near.Reads as chosen-near-reads
use Rattle.window.proofs.slide.Reads as slide-reads

width : OneResult width-reads.Post
width κs a x y e f = coincide

reach : OneResult reach-reads.Post
reach κs a x y e f = coincide

lowest_near_lem : OneResult lowest-near-reads.Post
lowest_near_lem κs a x y e f = coincide

chosen_near_lem : OneResult chosen-near-reads.Post
chosen_near_lem κs a x y e f = coincide

-- the row at exit
slide : OneOutcome (λ κs x e. e.0.now) slide-reads.Post
slide κs a x y e f = coincide
