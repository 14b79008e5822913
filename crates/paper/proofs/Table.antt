-- "One table, one statement over it, from the definitions alone." Assumes nothing.
use mathlib.Core.Path.{◌≡◌, refl}
use mathlib.Core.List.{List, [], ◌∷◌, map}
use Prim.Native.Nat.{ℕ}
use lib.IntN.{ℤ, pos, neg_ℤ}
use Rattle.paper.specs.declared.Instrument.{Instrument}
use Rattle.paper.specs.declared.Holding.{Holding}
use Rattle.paper.specs.Sums.{lowest}
use Rattle.paper.specs.Rounding.{nearest}
use Rattle.paper.specs.Products.{amount_at, naked_of}
use Rattle.paper.specs.Windows.{width}

-- an entry: what the definitions give, and what the paper says that they give
pub record Entry : Type 0 where
  pub found : ℤ
  pub stated : ℤ

gives : ℤ → ℤ → Entry
gives found stated = record { found = found; stated = stated }

minus : ℕ → ℤ
minus n = neg_ℤ (pos n)

-- "First FRA above": 91 days, Par 400,000, Adj 20,000, fixing today 3,700,000, before 3,690,000
fra : Instrument
fra = record { product = 1; class = 0; days = 91; today = pos 3700000; before = pos 3690000; par = pos 400000; adj = pos 20000 }

-- "Product 2, same Par and Adj"
future : Instrument
future = record { product = 2; class = 0; days = 0; today = pos 96300000; before = pos 96310000; par = pos 400000; adj = pos 20000 }

-- "Product 3, fixing 101,700,000, Par 30,000, Adj 1,000"
bond : Instrument
bond = record { product = 3; class = 0; days = 0; today = pos 101700000; before = pos 101700000; par = pos 30000; adj = pos 1000 }

-- "one contract bought"
one : Holding
one = record { net = pos 1; gross = pos 1 }

pub table : List Entry
table =
    gives (pos (width 4000 31)) (pos 13)
    ∷ gives (pos (width 1500 201)) (pos 31)
    ∷ gives (pos (width 2200 201)) (pos 45)
    ∷ gives (pos (width 0 31)) (pos 1)
    ∷ gives (pos (width 10000 31)) (pos 31)
    ∷ gives (nearest (pos 1) 2) (pos 1)
    ∷ gives (nearest (minus 1) 2) (minus 1)
    ∷ gives (nearest (pos 1) 3) (pos 0)
    ∷ gives (amount_at fra 31 one 0) (minus 106167)
    ∷ gives (amount_at fra 31 one 15) (minus 5056)
    ∷ gives (amount_at fra 31 one 16) (pos 1685)
    ∷ gives (amount_at future 31 one 16) (minus 11675)
    ∷ gives (naked_of bond 31 one) (minus 3152700)
    ∷ []

pub agreed : map (λ (e : Entry). e.found) table ≡ map (λ (e : Entry). e.stated) table
unfolding table gives minus fra future bond one width nearest amount_at naked_of lowest
agreed = refl
