-- The number so far, with the digits from here on after it, is the number that all of them write.
use Rattle.std.proofs.Common.{◌≡◌, drop}
use Rattle.kroner.specs.Reading.{number_from}
use Rattle.kroner.proofs.number.Given as goal

abbrev pub invariant-loop-c : goal.invariant-loop-c
invariant-loop-c l = number_from 0 l.digits ≡ number_from l.n (drop l.c-index l.digits)
