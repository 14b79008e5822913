-- Each public function's contract allows one result, or one content of what it lends. Assumes nothing.
use Rattle.amount.proofs.Outcomes.{OneOutcome, OneResult, coincide}
use Rattle.text.proofs.Text.empty.Reads as empty-reads
use Rattle.text.proofs.Text.with_byte.Reads as with-byte-reads
use Rattle.text.proofs.Text.with_bytes.Reads as with-bytes-reads
use Rattle.text.proofs.Text.with_decimal.Reads as with-decimal-reads
use Rattle.text.proofs.Text.as_bytes.Reads as as-bytes-reads
use Rattle.text.proofs.digit.Reads as digit-reads

empty : OneResult empty-reads.Post
empty κs a x y e f = coincide

with_byte : OneResult with-byte-reads.Post
with_byte κs a x y e f = coincide

with_bytes : OneResult with-bytes-reads.Post
with_bytes κs a x y e f = coincide

with_decimal : OneResult with-decimal-reads.Post
with_decimal κs a x y e f = coincide

as_bytes : OneOutcome (λ κs x e. x.now) as-bytes-reads.Post
as_bytes κs a x y e f = coincide

digit : OneResult digit-reads.Post
digit κs a x y e f = coincide
