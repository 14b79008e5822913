-- The public function's contract allows one result. Assumes nothing.
use Rattle.amount.proofs.Outcomes.{OneResult, coincide}
use Rattle.words.proofs.refusal.Reads as refusal-reads

refusal : OneResult refusal-reads.Post
refusal κs a x y e f = coincide
