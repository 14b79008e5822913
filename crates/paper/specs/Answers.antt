-- "What comes back": the answer's numbers, and what the two buffers lent hold afterwards.
use Rattle.std.specs.Prelude.{List, ◌++◌, ℕ, ◌+◌, ◌*◌, ◌/◌, ◌%◌, ℤ, pos, ◌+ℤ◌, length, drop, get_or, Result, Ok, Err}
use Rattle.paper.specs.declared.Shape.{Shape}
use Rattle.paper.specs.declared.Totals.{Totals}
use Rattle.paper.specs.declared.Fault.{Fault}
use Rattle.paper.specs.declared.Fault.TheVariants.{Length, Letter, Order, Limit, Reserved, Reference, Range, Points, Rows, Choice}
use Rattle.paper.specs.declared.Refusal.{Refusal}
use Rattle.paper.specs.Sums.{listed}
use Rattle.paper.specs.Refusals.{Verdict, verdict_on}
use Rattle.paper.specs.Products.{terms_of, positions_of, mark_total, naked_total}
use Rattle.paper.specs.Trees.{Tree, tree_of, row_of, cross_of, class_choice, item_choice, LowestTotal}

-- "the totals of mark-to-market, naked and cross margin": zero, and with one amount more
abbrev pub no_totals : Totals
no_totals = record { mark = pos 0; naked = pos 0; cross = pos 0 }

abbrev pub add_mark : Totals → ℤ → Totals
add_mark t amount = record { mark = t.mark +ℤ amount; naked = t.naked; cross = t.cross }

abbrev pub add_naked : Totals → ℤ → Totals
add_naked t amount = record { mark = t.mark; naked = t.naked +ℤ amount; cross = t.cross }

abbrev pub add_cross : Totals → ℤ → Totals
add_cross t amount = record { mark = t.mark; naked = t.naked; cross = t.cross +ℤ amount }

-- the table's column "Code"
abbrev pub code_of : Fault → ℕ
code_of Length = 1
code_of Letter = 2
code_of Order = 3
code_of Limit = 4
code_of Reserved = 5
code_of Reference = 6
code_of Range = 7
code_of Points = 8
code_of Rows = 9
code_of Choice = 10

-- what a run answers: the totals, or the refusal
abbrev pub Answer : Type 0
Answer = Result Totals Refusal

-- "The answer is a code, a place, and the totals": these numbers of each case of an answer
abbrev pub answer_code : Answer → ℕ
answer_code (Ok t) = 0
answer_code (Err r) = code_of r.fault

abbrev pub answer_place : Answer → ℕ
answer_place (Ok t) = 0
answer_place (Err r) = r.place

abbrev pub answer_totals : Answer → Totals
answer_totals (Ok t) = t
answer_totals (Err r) = no_totals

-- a tree with the rows that its results are read from
pub record Walk : Type 0 where
  pub tree : Tree
  pub row : ℕ → ℕ → ℤ

-- a sound book's tree with its own rows, which are put in here and nowhere else
abbrev pub walk_of : List ℕ → Shape → Walk
walk_of b s =
    let t = tree_of (terms_of b s) (positions_of b s) in
    record { tree = t; row = row_of t }

-- the three totals of a sound book
abbrev pub figures : List ℕ → Shape → Totals
figures b s = record {
  mark = mark_total (terms_of b s) (positions_of b s);
  naked = naked_total (terms_of b s) (positions_of b s);
  cross = let w = walk_of b s in cross_of w.tree w.row;
}

-- what a verdict gives: "Acceptance is code 0 and place 0."; "Every refusal has zero totals"
abbrev pub code_given : Verdict → ℕ
code_given (Ok s) = 0
code_given (Err r) = code_of r.fault

abbrev pub place_given : Verdict → ℕ
place_given (Ok s) = 0
place_given (Err r) = r.place

abbrev pub totals_given : List ℕ → Verdict → Totals
totals_given b (Ok s) = figures b s
totals_given b (Err r) = no_totals

-- "Row k occupies entries k times points onward in the rows buffer, one row a class." "Entries past these are untouched."
unfoldable pub rows_for : Walk → List ℤ → List ℤ
rows_for w rows =
    let points = w.tree.points in
    let size = w.tree.classes * points in
    listed size (λ e. w.row (e / points) (e % points)) ++ drop size rows

-- "The choice buffer has one point a class, then one an instrument."
unfoldable pub choice_for : Walk → List ℕ → List ℕ
choice_for w choice =
    let t = w.tree in
    listed t.classes (class_choice t w.row)
    ++ (listed t.instruments (item_choice t w.row) ++ drop (t.classes + t.instruments) choice)

-- "Two lent buffers are written on acceptance"; a refusal has "neither buffer altered"
abbrev pub rows_on : List ℕ → Verdict → List ℤ → List ℤ
rows_on b (Ok s) rows = rows_for (walk_of b s) rows
rows_on b (Err r) rows = rows

abbrev pub choice_on : List ℕ → Verdict → List ℕ → List ℕ
choice_on b (Ok s) choice = choice_for (walk_of b s) choice
choice_on b (Err r) choice = choice

-- what the buffers hold after a run of a book that was lent them
unfoldable pub rows_after : List ℕ → List ℤ → List ℕ → List ℤ
rows_after b rows choice = rows_on b (verdict_on b (length rows) (length choice)) rows

unfoldable pub choice_after : List ℕ → List ℤ → List ℕ → List ℕ
choice_after b rows choice = choice_on b (verdict_on b (length rows) (length choice)) choice

-- the choice that stands in a choice buffer: a class's point, and an instrument's
abbrev pub class_point : List ℕ → ℕ → ℕ
class_point choice k = get_or choice k 0

abbrev pub item_point : Tree → List ℕ → ℕ → ℕ
item_point t choice i = get_or choice (t.classes + i) 0

-- the third demand of a sound book, of the cross margin answered and of the choice buffer handed back
abbrev pub LowestOfBook : List ℕ → Shape → ℤ → List ℕ → Type 0
LowestOfBook b s cross choice = let t = (walk_of b s).tree in LowestTotal t cross (class_point choice) (item_point t choice)
