use Rattle.std.proofs.Common.{◌≡◌, List, [], ◌∷◌, ℕ, length, refl, sym, arith}
use borrow.Author.Tests.{eqb-true}
use Rattle.paper.specs.Records.{class_at, le16}
use Rattle.book.proofs.first_points.Goals as goal

empty : (b : List ℕ) → length b ≡ 0 → b ≡ []
empty [] h = refl
empty (x ∷ b) h = absurd (omega arith)

pub returns-then-is_empty : goal.returns-then-is_empty
unfolding class_at le16
returns-then-is_empty c =
    let e : c.args.book.now ≡ [] = empty c.args.book.now (eqb-true _ _ (sym c.if-is_empty.ensures)) in
    rw e
