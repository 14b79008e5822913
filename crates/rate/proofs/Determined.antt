-- Each public function's contract allows one result. Assumes nothing.
use mathlib.Core.Path.{ap}
use lib.IntN.{ℤ}
use Rattle.amount.proofs.Outcomes.{OneResult, coincide}
use Rattle.rate.proofs.Rate.of_basis_points.Reads as of-basis-points-reads
use Rattle.rate.proofs.Rate.full_rate.Reads as full-rate-reads
use Rattle.rate.proofs.Rate.nominal_ore.Reads as nominal-ore-reads
use Rattle.rate.proofs.Rate.ore.Reads as ore-reads
use Rattle.rate.proofs.Rate.hundredths.Reads as hundredths-reads

of_basis_points : OneResult of-basis-points-reads.Post
of_basis_points κs a x y e f p q = ap (λ (z : ℤ). record { units = z }) (coincide p q)

full_rate_lem : OneResult full-rate-reads.Post
full_rate_lem κs a x y e f p q = ap (λ (z : ℤ). record { units = z }) (coincide p q)

nominal_ore : OneResult nominal-ore-reads.Post
nominal_ore κs a x y e f = coincide

ore : OneResult ore-reads.Post
ore κs a x y e f = coincide

hundredths : OneResult hundredths-reads.Post
hundredths κs a x y e f = coincide
