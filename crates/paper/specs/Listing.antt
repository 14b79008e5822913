-- "The evening listing": its text, a list of bytes.
use Rattle.std.specs.Prelude.{cond, List, [], ◌∷◌, ◌++◌, ℕ, zero, suc, ◌+◌, ◌*◌, ◌/◌, ◌%◌, ltb, ℤ, nat_abs, Ok, Err}
use Rattle.std.specs.Int.Signed.{non_neg}
use Rattle.paper.specs.declared.Totals.{Totals}
use Rattle.paper.specs.Records.{record_bytes}
use Rattle.paper.specs.Refusals.{most_classes, most_instruments, most_positions, Verdict, verdict_of}
use Rattle.paper.specs.Trees.{class_choice, item_choice}
use Rattle.paper.specs.Answers.{code_of, Walk, walk_of, figures}

-- "a book longer than 344 is always refused": the most records that the limits leave
abbrev pub most_records : ℕ
most_records = most_classes + most_instruments + most_positions

-- "keeping the first 345 records and counting the rest"
abbrev pub kept_records : ℕ
kept_records = most_records + 1

-- their bytes
abbrev pub kept_bytes : ℕ
kept_bytes = kept_records * record_bytes

-- the digit that n ends in
abbrev pub digit : ℕ → ℕ
digit n = 48 + n % 10

-- a number in decimal, of at most so many digits; no number has more digits than one more than itself
unfoldable pub digits : ℕ → ℕ → List ℕ
digits zero n = []
digits (suc most) n =
    let front = digits most (n / 10) in
    cond (ltb n 10) (digit n ∷ []) (front ++ (digit n ∷ []))

unfoldable pub decimal : ℕ → List ℕ
decimal n = digits (suc n) n

-- "Amounts are kroner with two decimals, "-" before negatives only"
unfoldable pub kroner : ℤ → List ℕ
kroner z =
    cond (non_neg z) [] (45 ∷ [])
    ++ (decimal (nat_abs z / 100) ++ (46 ∷ digit (nat_abs z / 10) ∷ digit (nat_abs z) ∷ []))

-- "the tags MTM, NAKED, CROSS, CLASS and ITEM, or .. REFUSED"
abbrev pub MTM : List ℕ
MTM = 77 ∷ 84 ∷ 77 ∷ []

abbrev pub NAKED : List ℕ
NAKED = 78 ∷ 65 ∷ 75 ∷ 69 ∷ 68 ∷ []

abbrev pub CROSS : List ℕ
CROSS = 67 ∷ 82 ∷ 79 ∷ 83 ∷ 83 ∷ []

abbrev pub CLASS : List ℕ
CLASS = 67 ∷ 76 ∷ 65 ∷ 83 ∷ 83 ∷ []

abbrev pub ITEM : List ℕ
ITEM = 73 ∷ 84 ∷ 69 ∷ 77 ∷ []

abbrev pub REFUSED : List ℕ
REFUSED = 82 ∷ 69 ∷ 70 ∷ 85 ∷ 83 ∷ 69 ∷ 68 ∷ []

-- "Fields are divided by one space": a line of a tag and its fields
unfoldable pub fields : List (List ℕ) → List ℕ
fields [] = 10 ∷ []
fields (f ∷ fs) = 32 ∷ f ++ fields fs

abbrev pub line : List ℕ → List (List ℕ) → List ℕ
line tag fs = tag ++ fields fs

-- "in number order": the lines of numbers 0 to n - 1
unfoldable pub lines : ℕ → (ℕ → List ℕ) → List ℕ
lines zero f = []
lines (suc n) f = lines n f ++ f n

-- "CLASS has number and point"
abbrev pub class_line : Walk → ℕ → List ℕ
class_line w k = line CLASS (decimal k ∷ decimal (class_choice w.tree w.row k) ∷ [])

-- "ITEM has number, point and amount there."
abbrev pub item_line : Walk → ℕ → List ℕ
item_line w i =
    let point = item_choice w.tree w.row i in
    line ITEM (decimal i ∷ decimal point ∷ kroner (w.tree.amount i point) ∷ [])

-- the lines of the three totals
abbrev pub total_lines : Totals → List ℕ
total_lines f = line MTM (kroner f.mark ∷ []) ++ (line NAKED (kroner f.naked ∷ []) ++ line CROSS (kroner f.cross ∷ []))

-- "After CROSS each class has a CLASS line and then each instrument an ITEM line"; "or one line with REFUSED, code and place"
unfoldable pub listing_for : List ℕ → Verdict → List ℕ
listing_for b (Ok s) =
    total_lines (figures b s) ++ (lines s.classes (class_line (walk_of b s)) ++ lines s.instruments (item_line (walk_of b s)))
listing_for b (Err r) = line REFUSED (decimal (code_of r.fault) ∷ decimal r.place ∷ [])

-- the whole output
unfoldable pub listing_of : List ℕ → List ℕ
listing_of b = listing_for b (verdict_of b)
