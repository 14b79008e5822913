-- A refusal in words, for whoever reads it on a screen. The words are ours.
use Rattle.std.specs.Prelude.{List, [], ◌∷◌, ℕ}
use Prim.Native.Char.{code}
use Prim.Native.String.{String, [] as end, ◌∷◌ as ◌then◌}
use Rattle.paper.specs.declared.Fault.{Fault}
use Rattle.paper.specs.declared.Fault.TheVariants.{Length, Letter, Order, Limit, Reserved, Reference, Range, Points, Rows, Choice}
use Rattle.paper.specs.Records.{by_kind}
use Rattle.lines.specs.Remarks.{remark}

-- the bytes of a text; a character of plain English is one byte
unfoldable pub bytes : String → List ℕ
bytes end = []
bytes (c then s) = code c ∷ bytes s

-- what a record of a kind is called
abbrev pub kind_words : ℕ → String
kind_words kind = by_kind kind ", a class: " ", an instrument: " ", a position: " ", of no kind: "

-- what is wrong
abbrev pub meaning : Fault → String
meaning Length = "the length is not a multiple of 32 bytes"
meaning Letter = "its letter is not C, I or P"
meaning Order = "it comes after a record of a later kind"
meaning Limit = "one more than a book may have of its kind"
meaning Reserved = "a reserved byte is not zero"
meaning Reference = "what it names does not stand before it"
meaning Range = "a field is out of its range"
meaning Points = "its points differ from class 0's"
meaning Rows = "the rows buffer is too short"
meaning Choice = "the choice buffer is too short"

-- "record 3, an instrument: a field is out of its range"
abbrev pub record_line : ℕ → ℕ → List ℕ → List ℕ
record_line place kind said = remark (bytes "record ") place (bytes (kind_words kind)) said

-- "a book of 3 whole records: the length is not a multiple of 32 bytes"
abbrev pub book_line : ℕ → List ℕ → List ℕ
book_line place said = remark (bytes "a book of ") place (bytes " whole records: ") said

-- a refusal's line: the place of code 1, 9 and 10 is the number of whole records, of any other a record
abbrev pub refusal_line : Fault → ℕ → ℕ → List ℕ
refusal_line Length place kind = book_line place (bytes (meaning Length))
refusal_line Letter place kind = record_line place kind (bytes (meaning Letter))
refusal_line Order place kind = record_line place kind (bytes (meaning Order))
refusal_line Limit place kind = record_line place kind (bytes (meaning Limit))
refusal_line Reserved place kind = record_line place kind (bytes (meaning Reserved))
refusal_line Reference place kind = record_line place kind (bytes (meaning Reference))
refusal_line Range place kind = record_line place kind (bytes (meaning Range))
refusal_line Points place kind = record_line place kind (bytes (meaning Points))
refusal_line Rows place kind = book_line place (bytes (meaning Rows))
refusal_line Choice place kind = book_line place (bytes (meaning Choice))
