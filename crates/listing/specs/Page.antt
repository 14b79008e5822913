-- A listing written into a buffer, and its lines as the choice buffer has them.
use Rattle.std.specs.Prelude.{◌≡◌, cond, List, [], ◌∷◌, ◌++◌, ℕ, ◌+◌, ◌*◌, ◌/◌, ◌≤◌, ltb, ℤ, length, get_or, drop, Option, None, Some, Ok, Err}
use Rattle.paper.specs.declared.Shape.{Shape}
use Rattle.paper.specs.declared.Totals.{Totals}
use Rattle.paper.specs.declared.Fault.TheVariants.{Length}
use Rattle.paper.specs.Records.{record_bytes, whole_records, kind_at}
use Rattle.paper.specs.Refusals.{most_classes, most_instruments, Verdict, verdict_of}
use Rattle.paper.specs.Answers.{code_of, class_point}
use Rattle.paper.specs.Listing.{decimal, kroner, line, lines, CLASS, ITEM, REFUSED, total_lines, listing_of}
use Rattle.words.specs.Words.{refusal_line}
use Rattle.margin.specs.Items.{item_of}
use Rattle.margin.specs.Counted.{Counted}

-- the line of class k, with its point in the choice buffer
abbrev pub class_in : List ℕ → ℕ → List ℕ
class_in choice k = line CLASS (decimal k ∷ decimal (class_point choice k) ∷ [])

-- the line of instrument i at a point, where there is such an item
abbrev pub item_text : ℕ → ℕ → Option ℤ → List ℕ
item_text i point (Some z) = line ITEM (decimal i ∷ decimal point ∷ kroner z ∷ [])
item_text i point None = []

-- the line of instrument i, with its point among the instruments'
abbrev pub item_by : List ℕ → List ℕ → ℕ → List ℕ
item_by b points i = let point = get_or points i 0 in item_text i point (item_of b i point)

-- the line of instrument i, with its point in the choice buffer after those of the classes
abbrev pub item_in : List ℕ → List ℕ → ℕ → ℕ → List ℕ
item_in b choice classes i = let point = class_point choice (classes + i) in item_text i point (item_of b i point)

-- the lines of an accepted book's totals and of the choice that stands in the buffer
abbrev pub figure_lines : List ℕ → Shape → Totals → List ℕ → List ℕ
figure_lines b s t choice = total_lines t ++ (lines s.classes (class_in choice) ++ lines s.instruments (item_in b choice s.classes))

-- the line of a refusal
abbrev pub refused_line : ℕ → ℕ → List ℕ
refused_line code place = line REFUSED (decimal code ∷ decimal place ∷ [])

-- a buffer in which every listing fits: the totals, each class with its point, each instrument with its point and amount
abbrev pub most : ℕ
most = 26 + 28 + 28 + most_classes * 13 + most_instruments * 34

-- the text s stands in the buffer, unless that is too short for some listing: then nothing was written
pub record Printed (s out : List ℕ) (page : Option ℕ) (out' : List ℕ) : Type 0 where
  pub fits : length s ≤ most
  pub answers : page ≡ cond (ltb (length out) most) None (Some (length s))
  pub holds : out' ≡ cond (ltb (length out) most) out (s ++ drop (length s) out)

-- of every book that was so kept and counted it is the book's listing; what is of no book is refused as a faulty length
abbrev pub Listed : List ℕ → ℕ → List ℕ → Option ℕ → List ℕ → Type 0
Listed kept size out page out' =
    Counted kept size (λ b. Printed (listing_of b) out page out') (Printed (refused_line (code_of Length) (size / record_bytes)) out page out')

-- the kind of a record that was kept, and none of any other
abbrev pub kind_kept : List ℕ → ℕ → ℕ
kind_kept b r = cond (ltb r (whole_records b)) (kind_at b r) 0

-- what is said of a verdict on a book: a refusal in words, with the kind of the record at its place; of a sound book nothing
abbrev pub said : List ℕ → Verdict → List ℕ
said b (Ok s) = []
said b (Err r) = refusal_line r.fault r.place (kind_at b r.place)

-- of every book that was so kept and counted the text is of its verdict; what is of no book is a faulty length
abbrev pub Explained : List ℕ → ℕ → List ℕ → Type 0
Explained kept size t =
    Counted kept size (λ b. t ≡ said b (verdict_of b)) (t ≡ refusal_line Length (size / record_bytes) 0)
