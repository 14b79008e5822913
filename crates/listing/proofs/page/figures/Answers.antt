use Rattle.std.specs.Prelude.{Ok}
use Rattle.std.proofs.Common.{◌≡◌, List, ℕ, ℤ, refl, length, arith}
use Rattle.paper.specs.declared.Shape.{Shape}
use Rattle.paper.specs.declared.Totals.{Totals}
use Rattle.paper.specs.Refusals.{verdict_of}
use Rattle.paper.specs.Listing.{listing_for}
use Rattle.margin.specs.Run.{Ran}
use Rattle.listing.specs.Page.{figure_lines}
use Rattle.listing.proofs.Sounds.{enough, listing_is}
use Rattle.listing.proofs.page.figures.Goals as goal

-- the lines of what was run in buffers that are long enough are the listing's
lines_are :
    (b : List ℕ) (s : Shape) (rows rows' : List ℤ) (choice choice' : List ℕ) (code place : ℕ) (totals : Totals) →
    verdict_of b ≡ Ok s → length rows ≡ 4824 → length choice ≡ 88 → Ran b rows choice code place totals rows' choice' →
    figure_lines b s totals choice' ≡ listing_for b (Ok s)
lines_are b s rows rows' choice choice' code place totals sound r c ran =
    listing_is b s rows choice code place totals rows' choice' sound
    (enough b s (length rows) (length choice) sound (omega arith) (omega arith))
    ran

pub returns : goal.returns
returns c =
    let b = c.args.book.now in
    rw c.totals.ensures (lines_are b.bytes.now b.shape _ _ _ _ _ _ _ b.sound refl refl c.run-answer.ensures)
