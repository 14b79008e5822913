-- An answer's code, place and totals determine it. Assumes nothing.
use Rattle.std.specs.Prelude.{Ok, Err}
use Rattle.paper.specs.Answers.{Answer}
use mathlib.Core.Path.{◌≡◌, refl, sym, ap, ap₂, ◌∙◌}
use mathlib.Core.Bool.{cond}
use Prim.Native.Nat.{ℕ, ◌≤◌}
use native.Mathlib.Omega.{arith}
use lib.Dec.{eqb}
use Rattle.paper.specs.declared.Fault.{Fault}
use Rattle.paper.specs.declared.Fault.TheVariants.{Length, Letter, Order, Limit, Reserved, Reference, Range, Points, Rows, Choice}
use Rattle.paper.specs.Answers.{code_of, answer_code, answer_place, answer_totals}

-- the fault of a code
abbrev fault_of : ℕ → Fault
fault_of code =
    cond (eqb code 1) Length
    (cond (eqb code 2) Letter
    (cond (eqb code 3) Order
    (cond (eqb code 4) Limit
    (cond (eqb code 5) Reserved
    (cond (eqb code 6) Reference
    (cond (eqb code 7) Range
    (cond (eqb code 8) Points
    (cond (eqb code 9) Rows Choice))))))))

of_code : (f : Fault) → f ≡ fault_of (code_of f)
of_code Length = refl
of_code Letter = refl
of_code Order = refl
of_code Limit = refl
of_code Reserved = refl
of_code Reference = refl
of_code Range = refl
of_code Points = refl
of_code Rows = refl
of_code Choice = refl

-- no two rows of the table have one code
pub same_fault : (f g : Fault) → code_of f ≡ code_of g → f ≡ g
same_fault f g e = of_code f ∙ ap fault_of e ∙ sym (of_code g)

-- no refusal has the code of acceptance
above_zero : (f : Fault) → 1 ≤ code_of f
above_zero Length = omega arith
above_zero Letter = omega arith
above_zero Order = omega arith
above_zero Limit = omega arith
above_zero Reserved = omega arith
above_zero Reference = omega arith
above_zero Range = omega arith
above_zero Points = omega arith
above_zero Rows = omega arith
above_zero Choice = omega arith

pub same_answer : (a b : Answer) → answer_code a ≡ answer_code b → answer_place a ≡ answer_place b → answer_totals a ≡ answer_totals b → a ≡ b
same_answer (Ok t) (Ok u) code place totals = ap Ok totals
same_answer (Ok t) (Err q) code place totals = absurd (omega (arith, above_zero q.fault))
same_answer (Err r) (Ok u) code place totals = absurd (omega (arith, above_zero r.fault))
same_answer (Err r) (Err q) code place totals = ap₂ (λ f p. Err (record { fault = f; place = p })) (same_fault r.fault q.fault code) place
