-- Each public function's contract allows one result. Assumes nothing.
use Rattle.amount.proofs.Outcomes.{OneResult, coincide}
use Rattle.lines.proofs.total.Reads as total-reads
use Rattle.lines.proofs.numbers.Reads as numbers-reads
use Rattle.lines.proofs.item.Reads as item-reads
use Rattle.lines.proofs.remark.Reads as remark-reads

total : OneResult total-reads.Post
total κs a x y e f = coincide

numbers : OneResult numbers-reads.Post
numbers κs a x y e f = coincide

item : OneResult item-reads.Post
item κs a x y e f = coincide

remark : OneResult remark-reads.Post
remark κs a x y e f = coincide
