-- How the units belong together. Assumes nothing.
use mathlib.Core.Path.{◌≡◌, refl}
use Prim.Native.Nat.{◌*◌}
use lib.IntN.{pos}
use Rattle.paper.specs.Units.{full_rate, nominal}
use Rattle.paper.specs.Rounding.{nearest}

-- a full rate over a year of 360 days is the nominal, by product 1's formula
pub full_year : nearest (pos (full_rate * 360)) 360 ≡ pos nominal
unfolding nearest
full_year = refl
