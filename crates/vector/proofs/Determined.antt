-- Each public function's contract allows one outcome: one result, and of `fill` one content of the working array.
-- Assumes nothing.
use Rattle.amount.proofs.Outcomes.{OneOutcome, OneResult, coincide}
use Rattle.std.proofs.Common.{ℕ, ap₂}
use Rattle.paper.specs.declared.Instrument.{Instrument}
use Rattle.paper.specs.declared.Position.{Position}
use Rattle.paper.specs.declared.Holding.{Holding}
use Rattle.vector.proofs.Item.of.Reads as item-reads
use Rattle.vector.proofs.Trade.of.Reads as trade-reads
use Rattle.vector.proofs.Item.amount_at.Reads as amount-at-reads
use Rattle.vector.proofs.Item.fill.Reads as fill-reads
use Rattle.vector.proofs.held.Reads as held_reads
use Rattle.vector.proofs.hold.Reads as hold-reads
use Rattle.vector.proofs.Trade.mark.Reads as mark-reads
use Rattle.vector.proofs.marked.Reads as marked-reads
use Rattle.vector.proofs.marks.Reads as marks-reads
use Rattle.vector.proofs.Item.naked.Reads as naked-reads
use Rattle.vector.proofs.nakeds.Reads as nakeds-reads

amount_at_lem : OneResult amount-at-reads.Post
amount_at_lem κs a x y e f = coincide

fill : OneOutcome (λ κs r e. e.1.0.now) fill-reads.Post
fill κs a x y e f = coincide

naked : OneResult naked-reads.Post
naked κs a x y e f = coincide

mark : OneResult mark-reads.Post
mark κs a x y e f = coincide

hold : OneResult hold-reads.Post
hold κs a x y e f = coincide

held : OneResult held_reads.Post
held κs a x y e f = coincide

marks : OneResult marks-reads.Post
marks κs a x y e f = coincide

marked : OneResult marked-reads.Post
marked κs a x y e f = coincide

nakeds : OneResult nakeds-reads.Post
nakeds κs a x y e f = coincide

item : OneOutcome {A = Instrument × (ℕ × Holding)} (λ κs r e. (r.instrument, (r.points, r.held))) item-reads.Post
item κs a x y e f = λ p q. ap₂ (λ a b. (a, b)) (coincide p.0 q.0) (ap₂ (λ a b. (a, b)) (coincide p.1.0 q.1.0) (coincide p.1.1 q.1.1))

trade : OneOutcome {A = Instrument × Position} (λ κs r e. (r.instrument, r.position)) trade-reads.Post
trade κs a x y e f = λ p q. ap₂ (λ a b. (a, b)) (coincide p.0 q.0) (coincide p.1 q.1)
