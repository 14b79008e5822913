-- What one position and one instrument of a book add to the totals.
use Rattle.std.specs.Prelude.{Bool, List, ℕ, eqb, ℤ, pos}
use Rattle.paper.specs.declared.Instrument.{Instrument}
use Rattle.paper.specs.declared.Shape.{Shape}
use Rattle.paper.specs.Sums.{only}
use Rattle.paper.specs.Records.{instrument_of, position_of}
use Rattle.paper.specs.Refusals.{by_product}
use Rattle.paper.specs.Products.{Terms, Positions, terms_of, positions_of, held_of, naked_of, mark_of}
use Rattle.paper.specs.Products as paper
use Rattle.book.specs.declared.SoundBook.{SoundBook}

-- what is fixed in a sound book, and its positions
abbrev pub terms_in : SoundBook → Terms
terms_in b = terms_of b.bytes.now b.shape

abbrev pub positions_in : SoundBook → Positions
positions_in b = positions_of b.bytes.now b.shape

-- the amount of one contract at point i, by its product
abbrev pub one_at : Instrument → ℕ → Bool → ℕ → ℤ
one_at x m buys i = by_product x.product (paper.fra x m buys i) (paper.future x m buys i) (paper.bond x m buys i) (pos 0)

-- the mark-to-market of position k
abbrev pub mark_at : List ℕ → Shape → ℕ → ℤ
mark_at b s k = mark_of (instrument_of b s (position_of b s k).instrument) (position_of b s k)

-- and its share of what instrument i is marked to market at
abbrev pub mark_for : List ℕ → Shape → ℕ → ℕ → ℤ
mark_for b s i k = only (eqb (position_of b s k).instrument i) (mark_of (instrument_of b s i) (position_of b s k))

-- the naked margin of instrument i
abbrev pub naked_at : List ℕ → Shape → ℕ → ℤ
naked_at b s i = naked_of (instrument_of b s i) s.points (held_of (positions_of b s) i)
