-- Each public function's contract, of the private module too, allows one result. Assumes nothing.
use Rattle.amount.proofs.Outcomes.{OneResult, coincide}
use Rattle.book.proofs.tests.Next.finding.Reads as finding-reads
use Rattle.book.proofs.tests.Next.counted.Reads as counted-reads
use Rattle.book.proofs.SoundBook.class.Reads as class-reads
use Rattle.book.proofs.SoundBook.instrument.Reads as instrument-reads
use Rattle.book.proofs.SoundBook.position.Reads as position-reads
use Rattle.book.proofs.scan.Reads as scan-reads

finding : OneResult finding-reads.Post
finding κs a x y e f = coincide

scan : OneResult scan-reads.Post
scan κs a x y e f = coincide

counted_lem : OneResult counted-reads.Post
counted_lem κs a x y e f = coincide

class_lem : OneResult class-reads.Post
class_lem κs a x y e f = coincide

instrument_lem : OneResult instrument-reads.Post
instrument_lem κs a x y e f = coincide

position_lem : OneResult position-reads.Post
position_lem κs a x y e f = coincide
