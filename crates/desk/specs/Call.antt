-- The run of a book, its answer as five numbers.
use Rattle.paper.specs.declared.Totals.{Totals}
use Rattle.std.specs.Prelude.{ℤ}

-- the three totals, each through a pointer of its own
abbrev pub totals : ℤ → ℤ → ℤ → Totals
totals mark naked cross = record { mark = mark; naked = naked; cross = cross }
