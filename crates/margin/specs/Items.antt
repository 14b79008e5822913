-- An instrument's amount at a point, and its mark-to-market amount, of any book.
use Rattle.std.specs.Prelude.{cond, ◌&&◌, List, ℕ, ltb, ℤ, Option, None, Some, Ok, Err}
use Rattle.paper.specs.Refusals.{Verdict, verdict_of}
use Rattle.paper.specs.Products.{terms_of, positions_of, mark_of_item}
use Rattle.paper.specs.Answers.{walk_of}

-- the amount, where the book is sound and has the item and the point; else nothing
abbrev pub item_for : List ℕ → ℕ → ℕ → Verdict → Option ℤ
item_for b i point (Ok s) =
    cond (ltb i s.instruments && ltb point s.points) (Some ((walk_of b s).tree.amount i point)) None
item_for b i point (Err r) = None

unfoldable pub item_of : List ℕ → ℕ → ℕ → Option ℤ
item_of b i point = item_for b i point (verdict_of b)

-- its mark-to-market amount, where the book is sound and has the item; else nothing
abbrev pub item_mark_for : List ℕ → ℕ → Verdict → Option ℤ
item_mark_for b i (Ok s) = cond (ltb i s.instruments) (Some (mark_of_item (terms_of b s) (positions_of b s) i)) None
item_mark_for b i (Err r) = None

unfoldable pub item_mark_of : List ℕ → ℕ → Option ℤ
item_mark_of b i = item_mark_for b i (verdict_of b)
