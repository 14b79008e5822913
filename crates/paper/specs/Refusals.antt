-- The limits of "The book", the refusal table of "What comes back", and the order of its tests.
use Rattle.std.specs.Prelude.{Bool, true, false, not, ◌&&◌, ◌||◌, cond, List, [], ◌∷◌, ℕ, zero, suc, ◌+◌, ◌*◌, ◌%◌, eqb, leb, ltb, ℤ, pos, length, Result, Ok, Err}
use Rattle.std.specs.Int.Signed.{le_z}
use Rattle.paper.specs.declared.Class.{Class}
use Rattle.paper.specs.declared.Instrument.{Instrument}
use Rattle.paper.specs.declared.Position.{Position}
use Rattle.paper.specs.declared.Product.{Product}
use Rattle.paper.specs.declared.Product.TheVariants.{Fra, Future, Bond}
use Rattle.paper.specs.declared.Shape.{Shape}
use Rattle.paper.specs.declared.Fault.{Fault}
use Rattle.paper.specs.declared.Fault.TheVariants.{Length, Letter, Order, Limit, Reserved, Reference, Range, Points, Rows, Choice}
use Rattle.paper.specs.declared.Refusal.{Refusal}
use Rattle.paper.specs.Records.{record_bytes, whole_records, byte, by_kind, kind_at, root, class_at, instrument_at, position_at, traded_today, shape_of, instrument_of}

-- "At most 24 classes, 64 instruments, 256 positions."
abbrev pub most_classes : ℕ
most_classes = 24

abbrev pub most_instruments : ℕ
most_instruments = 64

abbrev pub most_positions : ℕ
most_positions = 256

-- lo ≤ z ≤ hi
abbrev pub within : ℤ → ℤ → ℤ → Bool
within lo hi z = le_z lo z && le_z z hi

-- "Points are odd, 3 to 201"
abbrev pub points_fit : ℕ → Bool
points_fit points = leb 3 points && leb points 201 && eqb (points % 2) 1

-- "Share 0 to 10,000."
abbrev pub share_fits : ℕ → Bool
share_fits share = leb share 10000

-- "Products: 1 CIBOR FRA, 2 CIBOR future, 3 mortgage bond future." A case for each, and a last one
abbrev pub by_product {ℓ} : {A : Type ℓ} → ℕ → A → A → A → A → A
by_product product fra future bond none =
    cond (eqb product 1) fra (cond (eqb product 2) future (cond (eqb product 3) bond none))

-- the product of a number; any other is out of its range
abbrev pub product_of : ℕ → Result Product Fault
product_of number = by_product number (Ok Fra) (Ok Future) (Ok Bond) (Err Range)

-- "The days must be 1 to 366 for product 1 and 0 for the others."
abbrev pub days_fit : ℕ → ℕ → Bool
days_fit product days = by_product product (leb 1 days && leb days 366) (eqb days 0) (eqb days 0) false

-- "Fixings and contracted prices: 0 to 100,000,000 for product 1, 0 to 200,000,000 for 2 and 3."
abbrev pub price_fits : ℕ → ℤ → Bool
price_fits product price =
    by_product product
    (within (pos 0) (pos 100000000) price)
    (within (pos 0) (pos 200000000) price)
    (within (pos 0) (pos 200000000) price)
    false

-- "Par: 0 to 10,000,000 (products 1, 2), 0 to 500,000 (3)."
abbrev pub par_fits : ℕ → ℤ → Bool
par_fits product par =
    by_product product
    (within (pos 0) (pos 10000000) par)
    (within (pos 0) (pos 10000000) par)
    (within (pos 0) (pos 500000) par)
    false

-- "Adj: 0 to 1,000,000 (1, 2), 0 to 50,000 (3)."
abbrev pub adj_fits : ℕ → ℤ → Bool
adj_fits product adj =
    by_product product
    (within (pos 0) (pos 1000000) adj)
    (within (pos 0) (pos 1000000) adj)
    (within (pos 0) (pos 50000) adj)
    false

-- "Quantity 1 to 1,000,000."
abbrev pub quantity_fits : ℕ → Bool
quantity_fits quantity = leb 1 quantity && leb quantity 1000000

-- "A carried position has contracted price 0." "a traded price of 0 is a price"
abbrev pub carried_fits : Position → Bool
carried_fits p = traded_today p || within (pos 0) (pos 0) p.price

-- The table: for each code, whether it is given. s is what the records before record r are.

-- 1: "length not a multiple of 32"
abbrev pub length_fault : List ℕ → Bool
length_fault b = not (eqb (length b % record_bytes) 0)

-- 2: "first byte not C, I or P"
abbrev pub letter_fault : List ℕ → ℕ → Bool
letter_fault b r = eqb (kind_at b r) 0

-- the kind of the record before; before the first stands none
unfoldable pub kind_before : List ℕ → ℕ → ℕ
kind_before b zero = 0
kind_before b (suc r) = kind_at b r

-- 3: "kind earlier than the record before"
abbrev pub order_fault : List ℕ → ℕ → Bool
order_fault b r = ltb (kind_at b r) (kind_before b r)

-- 4: "25th class, 65th instrument or 257th position"
abbrev pub limit_fault : List ℕ → ℕ → Shape → Bool
limit_fault b r s =
    by_kind (kind_at b r)
    (leb most_classes s.classes)
    (leb most_instruments s.instruments)
    (leb most_positions s.positions)
    false

-- the n bytes of record r from o on are zero
unfoldable pub zeros : List ℕ → ℕ → ℕ → ℕ → Bool
zeros b r o zero = true
zeros b r o (suc n) = eqb (byte b r o) 0 && zeros b r (o + 1) n

-- "Bytes not named are reserved and zero."
unfoldable pub reserved_zero : List ℕ → ℕ → Bool
reserved_zero b r =
    by_kind (kind_at b r)
    (zeros b r 1 1 && zeros b r 8 24)
    (zeros b r 6 2 && zeros b r 24 8)
    (zeros b r 13 19)
    true

-- 5: "reserved byte not zero"
abbrev pub reserved_fault : List ℕ → ℕ → Bool
reserved_fault b r = not (reserved_zero b r)

-- a parent is 65535 or a smaller class number; the class or instrument named is that of a record before
abbrev pub parent_refers : Class → Shape → Bool
parent_refers c s = eqb c.parent root || ltb c.parent s.classes

abbrev pub class_refers : Instrument → Shape → Bool
class_refers i s = ltb i.class s.classes

abbrev pub instrument_refers : Position → Shape → Bool
instrument_refers p s = ltb p.instrument s.instruments

-- 6: "parent neither 65535 nor a smaller class number; class or instrument number not that of a record before it"
unfoldable pub reference_fault : List ℕ → ℕ → Shape → Bool
reference_fault b r s =
    not
    (by_kind (kind_at b r)
    (parent_refers (class_at b r) s)
    (class_refers (instrument_at b r) s)
    (instrument_refers (position_at b r) s)
    true)

-- the other fields of a class, of an instrument and of a position are in their ranges
abbrev pub class_fits : Class → Bool
class_fits c = points_fit c.points && share_fits c.share

unfoldable pub instrument_fits : Instrument → Bool
instrument_fits i =
    days_fit i.product i.days
    && price_fits i.product i.today
    && price_fits i.product i.before
    && par_fits i.product i.par
    && adj_fits i.product i.adj

-- of a position with the product of the instrument that it names
unfoldable pub position_fits : Position → ℕ → Bool
position_fits p product =
    leb 1 p.side && leb p.side 2
    && quantity_fits p.quantity
    && price_fits product p.price
    && leb p.traded 1
    && carried_fits p

-- 7: "any other field out of its range above; contracted price of a carried position not 0"
unfoldable pub range_fault : List ℕ → ℕ → Shape → Bool
range_fault b r s =
    not
    (by_kind (kind_at b r)
    (class_fits (class_at b r))
    (instrument_fits (instrument_at b r))
    (position_fits (position_at b r) (instrument_of b s (position_at b r).instrument).product)
    true)

-- 8: "points differ from class 0's"
unfoldable pub points_fault : List ℕ → ℕ → Shape → Bool
points_fault b r s = by_kind (kind_at b r) (not (eqb (class_at b r).points s.points)) false false false

-- 9: "rows buffer shorter than classes times points"
abbrev pub rows_fault : Shape → ℕ → Bool
rows_fault s rows = ltb rows (s.classes * s.points)

-- 10: "choice buffer shorter than classes plus instruments"
abbrev pub choice_fault : Shape → ℕ → Bool
choice_fault s choice = ltb choice (s.classes + s.instruments)

-- a row of the table, and whether it is given
pub record Test : Type 0 where
  pub fault : Fault
  pub given : Bool

abbrev pub test : Fault → Bool → Test
test f g = record { fault = f; given = g }

-- "each record in file order by 2 to 8 in that order"
unfoldable pub tests : List ℕ → ℕ → Shape → List Test
tests b r s =
    test Letter (letter_fault b r)
    ∷ test Order (order_fault b r)
    ∷ test Limit (limit_fault b r s)
    ∷ test Reserved (reserved_fault b r)
    ∷ test Reference (reference_fault b r s)
    ∷ test Range (range_fault b r s)
    ∷ test Points (points_fault b r s)
    ∷ []

-- what the tests of one record find: nothing, or a fault
abbrev pub Finding : Type 0
Finding = Result (Unit {0}) Fault

-- the first that is given
unfoldable pub first_given : List Test → Finding
first_given [] = Ok tt
first_given (t ∷ ts) = cond t.given (Err t.fault) (first_given ts)

-- what the tests of record r find, after those before it
unfoldable pub finding_at : List ℕ → ℕ → Finding
finding_at b r = first_given (tests b r (shape_of b r))

-- what the tests of a whole book find: its shape, or the first fault and its place
abbrev pub Verdict : Type 0
Verdict = Result Shape Refusal

abbrev pub refused : Fault → ℕ → Verdict
refused f r = Err (record { fault = f; place = r })

-- at the end of a book of n records nothing more is tested
abbrev pub at_end : List ℕ → ℕ → Verdict
at_end b n = Ok (shape_of b n)

-- a faulty record ends the reading, with its number as place
abbrev pub or_else : Finding → ℕ → Verdict → Verdict
or_else (Ok none) r later = later
or_else (Err f) r later = refused f r

-- the verdict where the records before r are clean and n are left
unfoldable pub verdict_from : List ℕ → ℕ → ℕ → Verdict
verdict_from b r zero = at_end b r
verdict_from b r (suc n) = or_else (finding_at b r) r (verdict_from b (r + 1) n)

-- "Code 1 is tested first, then each record in file order"; "An empty book is accepted with zeros."
unfoldable pub verdict_of : List ℕ → Verdict
verdict_of b = cond (length_fault b) (refused Length (whole_records b)) (verdict_from b 0 (whole_records b))

-- "then 9, then 10", with the whole records as place
abbrev pub with_room : Verdict → ℕ → ℕ → ℕ → Verdict
with_room (Ok s) whole rows choice =
    cond (rows_fault s rows) (refused Rows whole) (cond (choice_fault s choice) (refused Choice whole) (Ok s))
with_room (Err r) whole rows choice = Err r

-- the verdict on a book and on the lengths of the two buffers lent
unfoldable pub verdict_on : List ℕ → ℕ → ℕ → Verdict
verdict_on b rows choice = with_room (verdict_of b) (whole_records b) rows choice
