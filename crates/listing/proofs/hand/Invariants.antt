use Rattle.std.proofs.Common.{◌≡◌, ◌++◌, List, ℕ}
use Rattle.std.specs.Io.KnownBytes.{Appends}
use Rattle.listing.proofs.hand.Given as goal

-- what is gone from the rest was taken
abbrev pub invariant-loop : goal.invariant-loop
invariant-loop g l = (taken : List ℕ) × (l.bytes ≡ taken ++ l.rest) × Appends (g.W.Write.contents l.initial.to) (g.W.Write.contents l.to) taken
