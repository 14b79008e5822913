-- Each public function's contract allows one result. Assumes nothing.
use Rattle.amount.proofs.Outcomes.{OneResult, coincide}
use Rattle.kroner.proofs.write.Reads as write-reads
use Rattle.kroner.proofs.read.Reads as read-reads

write : OneResult write-reads.Post
write κs a x y e f = coincide

read : OneResult read-reads.Post
read κs a x y e f = coincide
