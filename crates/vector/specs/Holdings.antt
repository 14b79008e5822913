-- What is held of an instrument after one more of its positions.
use Rattle.std.specs.Prelude.{cond, ℤ, pos, neg_ℤ, ◌+ℤ◌}
use Rattle.paper.specs.declared.Holding.{Holding}
use Rattle.paper.specs.declared.Position.{Position}
use Rattle.paper.specs.Records.{bought}

-- "Net is bought less sold quantity"
abbrev pub signed_quantity : Position → ℤ
signed_quantity p = cond (bought p) (pos p.quantity) (neg_ℤ (pos p.quantity))

abbrev pub held_with : Holding → Position → Holding
held_with held p = record { net = held.net +ℤ signed_quantity p; gross = held.gross +ℤ pos p.quantity }
