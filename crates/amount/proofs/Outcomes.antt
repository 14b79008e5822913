-- That a contract allows one outcome for each input. `Post` of a function's `Reads` is its contract as the checker reads
-- it: of the lifetimes, the arguments, the result, and the arguments at exit. Assumes nothing.
use mathlib.Core.Path.{◌≡◌, ◌∙◌, sym}

-- any two outcomes that a contract allows coincide, in what `seen` sees of the result and of the arguments at exit
abbrev pub OneOutcome : {L A : Type 0} {D R E : L → Type 0} → ((κs : L) → R κs → E κs → A) → ((κs : L) → D κs → R κs → E κs → Type 0) → Type 0
OneOutcome {L} {A} {D} {R} {E} seen post =
    (κs : L) (a : D κs) (x y : R κs) (e f : E κs) → post κs a x e → post κs a y f → seen κs x e ≡ seen κs y f

-- any two results that a contract allows coincide
abbrev pub OneResult : {L : Type 0} {D R E : L → Type 0} → ((κs : L) → D κs → R κs → E κs → Type 0) → Type 0
OneResult {L} {D} {R} {E} post = (κs : L) (a : D κs) (x y : R κs) (e f : E κs) → post κs a x e → post κs a y f → x ≡ y

-- what is equal to one thing is equal: a contract that is an equation allows one outcome
pub coincide {ℓ} : {A : Type ℓ} {x y z : A} → x ≡ z → y ≡ z → x ≡ y
coincide p q = p ∙ sym q
