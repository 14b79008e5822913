-- Each public function's contract allows one result. Assumes nothing.
use Rattle.amount.proofs.Outcomes.{OneResult, coincide}
use Rattle.ranges.proofs.class_finding.Reads as class-finding-reads
use Rattle.ranges.proofs.instrument_finding.Reads as instrument-finding-reads
use Rattle.ranges.proofs.position_finding.Reads as position-finding-reads

class_finding : OneResult class-finding-reads.Post
class_finding κs a x y e f = coincide

instrument_finding : OneResult instrument-finding-reads.Post
instrument_finding κs a x y e f = coincide

position_finding : OneResult position-finding-reads.Post
position_finding κs a x y e f = coincide
