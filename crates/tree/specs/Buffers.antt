-- The rows that stand in a buffer, and what a class's row is made of.
use Rattle.std.specs.Prelude.{◌≡◌, cond, List, ◌++◌, ℕ, ◌+◌, ◌-◌, ◌*◌, ◌≤◌, ◌<◌, eqb, ℤ, pos, ◌+ℤ◌, length, take, drop, get_or, Option, Some, None}
use Rattle.std.specs.Int.{w64}
use Rattle.std.proofs.Common.{SFits}
use Rattle.paper.specs.Sums.{sum, only, listed, lowest}
use Rattle.paper.specs.Windows.{lowest_near}
use Rattle.paper.specs.Trees.{Tree, is_root, row_of, class_choice}
use Rattle.paper.specs.Answers.{Walk, walk_of, class_point}
use Rattle.book.specs.declared.SoundBook.{SoundBook}

-- a sound book's tree with its rows
abbrev pub walk : SoundBook → Walk
walk b = walk_of b.bytes.now b.shape

-- class k's parent: a root has none
abbrev pub parent_in : Tree → ℕ → Option ℕ
parent_in t k = cond (is_root t k) None (Some (t.parent k))

-- "Row k occupies entries k times points onward": its entry at point x
abbrev pub rows_in : ℕ → List ℤ → ℕ → ℕ → ℤ
rows_in points rows k x = get_or rows (k * points + x) (pos 0)

-- row k ends within the buffer
abbrev pub RowWithin : ℕ → List ℤ → ℕ → Type 0
RowWithin points rows k = k * points + points ≤ length rows

-- all rows of a sound book do
abbrev pub RoomForRows : SoundBook → List ℤ → Type 0
RoomForRows b rows = b.shape.classes * b.shape.points ≤ length rows

-- the p entries from `from` on, and the list with others in their place
abbrev pub part_of : ℕ → ℕ → List ℤ → List ℤ
part_of from p rows = take p (drop from rows)

abbrev pub put : ℕ → ℕ → List ℤ → List ℤ → List ℤ
put from p rows part = take from rows ++ (part ++ drop p (drop from rows))

-- the buffer with row k at f's values, and all else as it was
unfoldable pub with_row : ℕ → List ℤ → ℕ → (ℕ → ℤ) → List ℤ
with_row points rows k f = put (k * points) points rows (listed points f)

-- a vector's lowest entry within reach r of x on top of row k's entry there
abbrev pub slid_over : ℕ → List ℤ → ℕ → (ℕ → ℤ) → ℕ → ℕ → ℤ
slid_over points rows k v r x = rows_in points rows k x +ℤ lowest_near points v r x

-- an amount at each point fits an i64
abbrev pub EachFits : ℕ → (ℕ → ℤ) → Type 0
EachFits points f = (x : ℕ) → x < points → SFits w64 (f x)

-- what class c, and instrument i, add to the result of class k at point x, where the rows are `row`
abbrev pub from_class : Tree → (ℕ → ℕ → ℤ) → ℕ → ℕ → ℕ → ℤ
from_class t row k x c = only (eqb (t.parent c) k) (lowest_near t.points (row c) (t.reach k) x)

abbrev pub from_item : Tree → ℕ → ℕ → ℕ → ℤ
from_item t k x i = only (eqb (t.home i) k) (lowest_near t.points (t.amount i) (t.reach k) x)

-- row k's entry in the buffer, with what class c adds to it, and with what instrument i adds
abbrev pub with_class : Tree → List ℤ → ℕ → ℕ → ℕ → ℤ
with_class t rows k c x = rows_in t.points rows k x +ℤ from_class t (rows_in t.points rows) k x c

abbrev pub with_item : Tree → List ℤ → ℕ → ℕ → ℕ → ℤ
with_item t rows k i x = rows_in t.points rows k x +ℤ from_item t k x i

-- and with what the first n classes, or instruments, add
abbrev pub with_classes : Tree → List ℤ → ℕ → ℕ → ℕ → ℤ
with_classes t rows k n x = rows_in t.points rows k x +ℤ sum n (from_class t (rows_in t.points rows) k x)

abbrev pub with_items : Tree → List ℤ → ℕ → ℕ → ℕ → ℤ
with_items t rows k n x = rows_in t.points rows k x +ℤ sum n (from_item t k x)

-- the result as far as the first n classes and the first m instruments go
abbrev pub result_so_far : Tree → (ℕ → ℕ → ℤ) → ℕ → ℕ → ℕ → ℕ → ℤ
result_so_far t row k x n m = sum n (from_class t row k x) +ℤ sum m (from_item t k x)

-- so far, it fits an i64
abbrev pub ResultFits : Tree → (ℕ → ℕ → ℤ) → ℕ → Type 0
ResultFits t row k =
    (x n m : ℕ) → x < t.points → n ≤ t.classes → m ≤ t.instruments → SFits w64 (result_so_far t row k x n m)

-- what class k adds to the cross margin where the rows are `row`: a root its lowest result
abbrev pub from_root : Tree → (ℕ → ℕ → ℤ) → ℕ → ℤ
from_root t row k = only (is_root t k) (lowest (row k) 0 (t.points - 1))

-- the buffer holds the tree's rows
abbrev pub HoldsRows : Tree → List ℤ → Type 0
HoldsRows t rows = (k x : ℕ) → k < t.classes → x < t.points → rows_in t.points rows k x ≡ row_of t k x

-- the choice buffer has the classes' points
abbrev pub ChosenClasses : Walk → List ℕ → Type 0
ChosenClasses w choice = (k : ℕ) → k < w.tree.classes → class_point choice k ≡ class_choice w.tree w.row k
