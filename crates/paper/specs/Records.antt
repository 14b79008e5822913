-- "The book": its records and their fields. A book is the list of its bytes; the fields are read out of it.
use Rattle.std.specs.Prelude.{Bool, cond, List, ℕ, zero, suc, ◌+◌, ◌*◌, ◌/◌, eqb, pos, length, get_or, Option, None, Some}
use Rattle.paper.specs.declared.Kind.{Kind}
use Rattle.paper.specs.declared.Kind.TheVariants as kinds
use Rattle.paper.specs.declared.Class.{Class}
use Rattle.paper.specs.declared.Instrument.{Instrument}
use Rattle.paper.specs.declared.Position.{Position}
use Rattle.paper.specs.declared.Shape.{Shape}

-- "Records of 32 bytes, no header"
abbrev pub record_bytes : ℕ
record_bytes = 32

-- "whole records"
abbrev pub whole_records : List ℕ → ℕ
whole_records b = length b / record_bytes

-- byte o of record r
abbrev pub byte : List ℕ → ℕ → ℕ → ℕ
byte b r o = get_or b (record_bytes * r + o) 0

-- "little endian": the field of two bytes from byte o on
unfoldable pub le16 : List ℕ → ℕ → ℕ → ℕ
le16 b r o = byte b r o + 256 * byte b r (o + 1)

-- the field of four bytes from byte o on
unfoldable pub le32 : List ℕ → ℕ → ℕ → ℕ
le32 b r o = le16 b r o + 65536 * le16 b r (o + 2)

-- "classes first, then instruments, then positions": a kind is its rank in that order, 1, 2 or 3; 0 is no kind
abbrev pub by_kind {ℓ} : {A : Type ℓ} → ℕ → A → A → A → A → A
by_kind kind class instrument position none =
    cond (eqb kind 1) class (cond (eqb kind 2) instrument (cond (eqb kind 3) position none))

-- "letter": C is 67, I 73, P 80
unfoldable pub kind_of : ℕ → ℕ
kind_of letter = cond (eqb letter 67) 1 (cond (eqb letter 73) 2 (cond (eqb letter 80) 3 0))

-- the rank of a kind, and of none
abbrev pub rank : Option Kind → ℕ
rank None = 0
rank (Some kinds.Class) = 1
rank (Some kinds.Instrument) = 2
rank (Some kinds.Position) = 3

-- the kind of record r
abbrev pub kind_at : List ℕ → ℕ → ℕ
kind_at b r = kind_of (byte b r 0)

-- "C: 2-3; 4-5; 6-7: parent class, or 65535 for a root; points; window share in hundredths of a percent"
unfoldable pub class_at : List ℕ → ℕ → Class
class_at b r = record { parent = le16 b r 2; points = le16 b r 4; share = le16 b r 6 }

-- "or 65535 for a root"
abbrev pub root : ℕ
root = 65535

-- the class above, where there is one
abbrev pub above : Class → Option ℕ
above c = cond (eqb c.parent root) None (Some c.parent)

-- "I: 1; 2-3; 4-5: product; class; days. 8-11; 12-15; 16-19; 20-23: fixing today; fixing before; Par; Adj"
unfoldable pub instrument_at : List ℕ → ℕ → Instrument
instrument_at b r = record {
  product = byte b r 1;
  class = le16 b r 2;
  days = le16 b r 4;
  today = pos (le32 b r 8);
  before = pos (le32 b r 12);
  par = pos (le32 b r 16);
  adj = pos (le32 b r 20);
}

-- "P: 1; 2-3; 4-7; 8-11; 12: side; instrument; quantity; contracted price; traded"
unfoldable pub position_at : List ℕ → ℕ → Position
position_at b r = record {
  side = byte b r 1;
  instrument = le16 b r 2;
  quantity = le32 b r 4;
  price = pos (le32 b r 8);
  traded = byte b r 12;
}

-- "side (1 bought, 2 sold)"
abbrev pub bought : Position → Bool
bought p = eqb p.side 1

-- "traded (1 today, 0 carried)"
abbrev pub traded_today : Position → Bool
traded_today p = eqb p.traded 1

-- "Records of a kind are numbered from 0": how many of the first r records are of a kind
unfoldable pub count : List ℕ → ℕ → ℕ → ℕ
count b kind zero = 0
count b kind (suc r) = count b kind r + cond (eqb (kind_at b r) kind) 1 0

-- how many of each kind the first r records are, and the points of class 0
unfoldable pub shape_of : List ℕ → ℕ → Shape
shape_of b r = record { classes = count b 1 r; instruments = count b 2 r; positions = count b 3 r; points = (class_at b 0).points }

-- class number k of a book of a given shape; then its instrument number i, and its position number p
abbrev pub class_of : List ℕ → ℕ → Class
class_of b k = class_at b k

abbrev pub instrument_of : List ℕ → Shape → ℕ → Instrument
instrument_of b s i = instrument_at b (s.classes + i)

abbrev pub position_of : List ℕ → Shape → ℕ → Position
position_of b s p = position_at b (s.classes + s.instruments + p)
