-- Tests that hold, taken apart; and a test chosen among three by a number, as the paper's `byProduct` and `by_kind` choose.
-- Assumes nothing.
use mathlib.Core.Path.{◌≡◌, refl}
use mathlib.Core.Logic.{◌⊎◌, inl, inr}
use mathlib.Core.Bool.{Bool, true, false, ◌&&◌, ◌||◌, cond}
use Prim.Native.Nat.{ℕ}
use native.Mathlib.Decide.{ℕ_discrete}
use native.Mathlib.Omega.{arith}
use borrow.Author.Tests.{ne_eqb}
use Rattle.paper.specs.Records.{by_kind}

pub same_cond : {A : Type 0} (t : Bool) (a : A) → cond t a a ≡ a
same_cond true a = refl
same_cond false a = refl

-- a test that holds at three numbers only, and there by a test of each
pub data Chosen (x : ℕ) (a b c : Bool) : Type 0 where
  first : x ≡ 1 → a ≡ true → Chosen x a b c
  second : x ≡ 2 → b ≡ true → Chosen x a b c
  third : x ≡ 3 → c ≡ true → Chosen x a b c

pub chosen : (x : ℕ) (a b c : Bool) → by_kind x a b c false ≡ true → Chosen x a b c
chosen x a b c h = elim (ℕ_discrete x 1) [
  | yes e ↦ first e (rw e at h)
  | no e ↦ elim (ℕ_discrete x 2) [
    | yes f ↦ second f (rw f at h)
    | no f ↦ elim (ℕ_discrete x 3) [
      | yes g ↦ third g (rw g at h)
      | no g ↦ absurd (never (simp (ne_eqb x 1 e, ne_eqb x 2 f, ne_eqb x 3 g) at h))
    ]
  ]
]
  where
    never : false ≡ true → ⊥
    never e = let z : ◌≡◌ {A = ℕ} 0 1 = cc in omega arith

pub both : (s t : Bool) → (s && t) ≡ true → (s ≡ true) × (t ≡ true)
both true t h = (refl, h)
both false t h = absurd (let z : ◌≡◌ {A = ℕ} 0 1 = cc in omega arith)

pub either : (s t : Bool) → (s || t) ≡ true → (s ≡ true) ⊎ (t ≡ true)
either true t h = inl refl
either false t h = inr h
