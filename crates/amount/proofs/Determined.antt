-- Each public function's contract, of this crate and of the vocabulary below it, allows one result. Assumes nothing.
use Rattle.amount.proofs.Outcomes.{OneResult, coincide}
use Rattle.paper.proofs.Fault.code.Reads as fault-code-reads
use Rattle.paper.proofs.Kind.rank.Reads as rank-reads
use Rattle.paper.proofs.ProductTryFromU8.try_from.Reads as try-from-reads
use Rattle.paper.proofs.ResultTotalsRefusalNumbers.code.Reads as answer-code-reads
use Rattle.paper.proofs.ResultTotalsRefusalNumbers.place.Reads as answer-place-reads
use Rattle.paper.proofs.ResultTotalsRefusalNumbers.totals.Reads as answer-totals-reads
use Rattle.paper.proofs.Class.above.Reads as above-reads
use Rattle.paper.proofs.Position.bought.Reads as bought-reads
use Rattle.paper.proofs.Position.traded_today.Reads as traded-today-reads
use Rattle.paper.proofs.Totals.none.Reads as none_reads
use Rattle.paper.proofs.Totals.with_mark.Reads as with-mark-reads
use Rattle.paper.proofs.Totals.with_naked.Reads as with-naked-reads
use Rattle.paper.proofs.Totals.with_cross.Reads as with-cross-reads
use Rattle.amount.proofs.plus.Reads as plus-reads
use Rattle.amount.proofs.less.Reads as less-reads
use Rattle.amount.proofs.times.Reads as times-reads
use Rattle.amount.proofs.worse.Reads as worse-reads
use Rattle.amount.proofs.lowest_from.Reads as lowest-from-reads
use Rattle.amount.proofs.lowest.Reads as lowest-reads
use Rattle.amount.proofs.size.Reads as size-reads
use Rattle.amount.proofs.nearest.Reads as nearest-reads

fault_code : OneResult fault-code-reads.Post
fault_code κs a x y e f = coincide

rank : OneResult rank-reads.Post
rank κs a x y e f = coincide

product_try_from : OneResult try-from-reads.Post
product_try_from κs a x y e f = coincide

answer_code_lem : OneResult answer-code-reads.Post
answer_code_lem κs a x y e f = coincide

answer_place_lem : OneResult answer-place-reads.Post
answer_place_lem κs a x y e f = coincide

answer_totals_lem : OneResult answer-totals-reads.Post
answer_totals_lem κs a x y e f = coincide

none : OneResult none_reads.Post
none κs a x y e f = coincide

with_mark : OneResult with-mark-reads.Post
with_mark κs a x y e f = coincide

with_naked : OneResult with-naked-reads.Post
with_naked κs a x y e f = coincide

with_cross : OneResult with-cross-reads.Post
with_cross κs a x y e f = coincide

plus : OneResult plus-reads.Post
plus κs a x y e f = coincide

less : OneResult less-reads.Post
less κs a x y e f = coincide

times : OneResult times-reads.Post
times κs a x y e f = coincide

worse : OneResult worse-reads.Post
worse κs a x y e f = coincide

size : OneResult size-reads.Post
size κs a x y e f = coincide

lowest_from : OneResult lowest-from-reads.Post
lowest_from κs a x y e f = coincide

lowest : OneResult lowest-reads.Post
lowest κs a x y e f = coincide

nearest : OneResult nearest-reads.Post
nearest κs a x y e f = coincide

above : OneResult above-reads.Post
above κs a x y e f = coincide

bought : OneResult bought-reads.Post
bought κs a x y e f = coincide

traded_today : OneResult traded-today-reads.Post
traded_today κs a x y e f = coincide
