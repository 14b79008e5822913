-- The ranges that a product decides as one value, and the fields of an instrument and of a position held to them.
use Rattle.std.specs.Prelude.{Bool, ◌&&◌, ℕ, leb, ℤ, pos}
use Rattle.paper.specs.declared.Product.{Product}
use Rattle.paper.specs.declared.Product.TheVariants.{Fra, Future, Bond}
use Rattle.paper.specs.declared.Instrument.{Instrument}
use Rattle.paper.specs.declared.Position.{Position}
use Rattle.paper.specs.Refusals.{within, quantity_fits, carried_fits}
use Rattle.ranges.specs.declared.Span.{Span}
use Rattle.ranges.specs.declared.Limits.{Limits}

abbrev pub holds : Span → ℤ → Bool
holds s z = within s.0 s.1 z

abbrev pub up_to : ℕ → Span
up_to high = (pos 0, pos high)

-- "Products: 1 CIBOR FRA, 2 CIBOR future, 3 mortgage bond future."
abbrev pub fra : Limits
fra = record { first = 1; last = 366; price = up_to 100000000; par = up_to 10000000; adj = up_to 1000000 }

abbrev pub future : Limits
future = record { first = 0; last = 0; price = up_to 200000000; par = up_to 10000000; adj = up_to 1000000 }

abbrev pub bond : Limits
bond = record { first = 0; last = 0; price = up_to 200000000; par = up_to 500000; adj = up_to 50000 }

abbrev pub limits_of : Product → Limits
limits_of Fra = fra
limits_of Future = future
limits_of Bond = bond

abbrev pub instrument_holds : Instrument → Limits → Bool
instrument_holds i l =
    leb l.first i.days && leb i.days l.last
    && holds l.price i.today
    && holds l.price i.before
    && holds l.par i.par
    && holds l.adj i.adj

abbrev pub position_holds : Position → Limits → Bool
position_holds p l =
    leb 1 p.side && leb p.side 2
    && quantity_fits p.quantity
    && holds l.price p.price
    && leb p.traded 1
    && carried_fits p
