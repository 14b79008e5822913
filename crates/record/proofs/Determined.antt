-- Each public function's contract, of the private module too, allows one result. Assumes nothing.
use Rattle.std.proofs.Common.{◌≡◌, refl, Option, None, Some, arith}
use Rattle.amount.proofs.Outcomes.{OneResult, coincide}
use Rattle.paper.specs.declared.Kind.{Kind}
use Rattle.paper.specs.declared.Kind.TheVariants.{Class, Instrument, Position}
use Rattle.paper.specs.Records.{rank}
use Rattle.record.proofs.bytes.byte.Reads as byte-Reads
use Rattle.record.proofs.bytes.le16.Reads as le16-reads
use Rattle.record.proofs.bytes.le32.Reads as le32-reads
use Rattle.record.proofs.bytes.signed.Reads as signed-Reads
use Rattle.record.proofs.Record.kind.Reads as kind-reads
use Rattle.record.proofs.Record.reserved_zero.Reads as reserved-zero-reads
use Rattle.record.proofs.Record.class.Reads as class-reads
use Rattle.record.proofs.Record.instrument.Reads as instrument-reads
use Rattle.record.proofs.Record.position.Reads as position-reads

byte : OneResult byte-Reads.Post
byte κs a x y e f = coincide

le16 : OneResult le16-reads.Post
le16 κs a x y e f = coincide

le32 : OneResult le32-reads.Post
le32 κs a x y e f = coincide

signed : OneResult signed-Reads.Post
signed κs a x y e f = coincide

-- no two kinds have one rank
same_rank : (x y : Option Kind) → rank x ≡ rank y → x ≡ y
same_rank None None h = refl
same_rank None (Some Class) h = absurd (omega arith)
same_rank None (Some Instrument) h = absurd (omega arith)
same_rank None (Some Position) h = absurd (omega arith)
same_rank (Some Class) None h = absurd (omega arith)
same_rank (Some Class) (Some Class) h = refl
same_rank (Some Class) (Some Instrument) h = absurd (omega arith)
same_rank (Some Class) (Some Position) h = absurd (omega arith)
same_rank (Some Instrument) None h = absurd (omega arith)
same_rank (Some Instrument) (Some Class) h = absurd (omega arith)
same_rank (Some Instrument) (Some Instrument) h = refl
same_rank (Some Instrument) (Some Position) h = absurd (omega arith)
same_rank (Some Position) None h = absurd (omega arith)
same_rank (Some Position) (Some Class) h = absurd (omega arith)
same_rank (Some Position) (Some Instrument) h = absurd (omega arith)
same_rank (Some Position) (Some Position) h = refl

kind_lem : OneResult kind-reads.Post
kind_lem κs a x y e f = λ p q. same_rank x y (coincide p q)

reserved_zero_lem : OneResult reserved-zero-reads.Post
reserved_zero_lem κs a x y e f = coincide

class_lem : OneResult class-reads.Post
class_lem κs a x y e f = coincide

instrument_lem : OneResult instrument-reads.Post
instrument_lem κs a x y e f = coincide

position_lem : OneResult position-reads.Post
position_lem κs a x y e f = coincide
