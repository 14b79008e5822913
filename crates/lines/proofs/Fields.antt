-- The fields of a line, and how long they are. Assumes nothing.
use mathlib.Core.Path.{◌≡◌, refl, ap, ◌∙◌}
use mathlib.Core.List.{List, [], ◌∷◌, ◌++◌}
use Prim.Native.Nat.{ℕ, suc, ◌+◌, ◌-◌, ◌^◌, ◌≤◌, ◌<◌}
use native.Mathlib.Omega.{arith}
use lib.ListN.{length, get_or, take, drop, length-append}
use lib.Seq.{take_all}
use Rattle.paper.specs.Listing.{decimal, fields}
use Rattle.text.proofs.Decimal.{decimal_length}

-- a line's end
pub fields_none : (fs : List (List ℕ)) → length fs < 1 → fields fs ≡ 10 ∷ []
unfolding fields
fields_none [] h = refl
fields_none (f ∷ fs) h = absurd (omega arith)

-- the first field, and those after it
pub fields_more : (fs : List (List ℕ)) (d : List ℕ) → 1 ≤ length fs → fields fs ≡ 32 ∷ (get_or fs 0 d ++ fields (take (length fs - 1) (drop 1 fs)))
unfolding fields
fields_more [] d h = absurd (omega arith)
fields_more (f ∷ fs) d h = let l : length fs ≤ length (f ∷ fs) - 1 = omega arith in rw (take_all (length (f ∷ fs) - 1) fs l)

-- how long they are
pub end_length : length (fields []) ≡ 1
unfolding fields
end_length = refl

pub field_length : (f : List ℕ) (fs : List (List ℕ)) → length (fields (f ∷ fs)) ≡ 1 + length f + length (fields fs)
unfolding fields
field_length f fs = ap suc (length-append f (fields fs)) ∙ omega arith

pub fields_length : (fs : List (List ℕ)) (d : List ℕ) → 1 ≤ length fs →
    length (fields fs) ≡ 1 + length (get_or fs 0 d) + length (fields (take (length fs - 1) (drop 1 fs)))
fields_length fs d h = rw (fields_more fs d h) (ap suc (length-append (get_or fs 0 d) (fields (take (length fs - 1) (drop 1 fs)))) ∙ omega arith)

pub number_short : (n : ℕ) → n < 2 ^ 64 → length (decimal n) ≤ 20
number_short n h = decimal_length 19 n (omega arith)

-- what the proof of the function that joins fields cites
pub ruleset fields_rules = (fields_none, fields_more, fields_length)
