-- "A class's result at point i is the sum ..": the rows satisfy the paper's sentence, and no other rows do; and what the
-- choice handed back is at a root and at a child. Assumes nothing.
use mathlib.Core.Path.{◌≡◌, refl, sym, ap, ap₂, ◌∙◌, fun_ext}
use mathlib.Core.Logic.{◌≢◌}
use Prim.Native.Nat.{ℕ, zero, suc, ◌-◌, ◌/◌, ◌≤◌, ◌<◌}
use native.Mathlib.Omega.{arith}
use native.Mathlib.Decide.{ℕ_discrete}
use borrow.Author.Tests.{eq-eqb, ne_eqb}
use lib.IntN.{ℤ, pos, ◌+ℤ◌}
use Rattle.paper.specs.Records.{root}
use Rattle.paper.specs.Windows.{lowest_near, chosen_near}
use Rattle.paper.specs.Trees.{Tree, result_from, row_of, choose_from, class_choice}
use Rattle.amount.proofs.Sums.{sum_cong, settled}
use Rattle.window.proofs.Near.{near_cong}
use Rattle.tree.specs.Buffers.{from_class}

-- few enough classes that no class has the number that marks a root, points where there are classes, parents before
-- their children, and every instrument at a class
pub record Valid (t : Tree) : Type 0 where
  pub few : t.classes ≤ root
  pub some : 0 < t.classes → 0 < t.points
  pub before : (k : ℕ) → k < t.classes → t.parent k ≢ root → t.parent k < k
  pub housed : (i : ℕ) → i < t.instruments → t.home i < t.classes

module _ (t : Tree) (ok : Valid t) where
  open t use {points, classes, parent, reach, instruments, home, amount}

  -- a class's result looks only at its children, which have larger numbers
  pub from_child : (f g : ℕ → ℕ → ℤ) (k x : ℕ) → k < classes → ((c : ℕ) → c < classes → k < c → lowest_near points (f c) (reach k) x ≡ lowest_near points (g c) (reach k) x) → (c : ℕ) → c < classes → from_class t f k x c ≡ from_class t g k x c
  from_child f g k x h e c l = elim (ℕ_discrete (parent c) k) [
    | yes r ↦ rw (e c l (omega (arith, ok.before c l (omega (arith, ok.few)))))
    | no r ↦ rw (ne_eqb (parent c) k r)
  ]

  pub from_children : (f g : ℕ → ℕ → ℤ) (k x : ℕ) → k < classes → ((c : ℕ) → c < classes → k < c → lowest_near points (f c) (reach k) x ≡ lowest_near points (g c) (reach k) x) → result_from t f k x ≡ result_from t g k x
  from_children f g k x h e = ap₂ ◌+ℤ◌ (sum_cong classes (from_child f g k x h e)) refl

  -- the paper's sentence
  pub row_is : (k : ℕ) → k < classes → row_of t k ≡ result_from t (row_of t) k
  unfolding row_of
  row_is k h = settled classes (λ j. classes - suc j) (result_from t) (λ k x. pos 0) local k h (omega arith)
    where
      local : (f g : ℕ → ℕ → ℤ) (k : ℕ) → k < classes → ((j : ℕ) → j < classes → classes - suc j < classes - suc k → f j ≡ g j) → result_from t f k ≡ result_from t g k
      local f g k h e = fun_ext (λ x. from_children f g k x h (λ c l m. ap (λ (v : ℕ → ℤ). lowest_near points v (reach k) x) (e c l (omega arith))))

  -- only these rows satisfy it
  pub row_only : (row : ℕ → ℕ → ℤ) → ((k x : ℕ) → k < classes → x < points → row k x ≡ result_from t row k x) → (k x : ℕ) → k < classes → x < points → row k x ≡ row_of t k x
  row_only row e k x h l = go (classes - k) k x h l (omega arith)
    where
      go : (n k x : ℕ) → k < classes → x < points → classes - k ≤ n → row k x ≡ row_of t k x
      go zero k x h l b = absurd (omega arith)
      go (suc n) k x h l b =
          e k x h l
          ∙ from_children row (row_of t) k x h (λ c m d. near_cong points (reach k) x l (λ y s. go n c y m s (omega arith)))
          ∙ sym (ap (λ (v : ℕ → ℤ). v x) (row_is k h))

  -- the choice handed back, over any rows
  module _ (row : ℕ → ℕ → ℤ) where
    choice_from : (k : ℕ) → k < classes → class_choice t row k ≡ choose_from t row (class_choice t row) k
    unfolding class_choice
    choice_from k h = settled classes (λ j. j) (choose_from t row) (λ k. 0) local k h h
      where
        local : (f g : ℕ → ℕ) (k : ℕ) → k < classes → ((j : ℕ) → j < classes → j < k → f j ≡ g j) → choose_from t row f k ≡ choose_from t row g k
        local f g k h e = elim (ℕ_discrete (parent k) root) [
          | yes r ↦ rw (eq-eqb (parent k) root r)
          | no r ↦ rw (e (parent k) (omega (arith, ok.before k h r)) (ok.before k h r))
        ]

    pub choice_root : (k : ℕ) → k < classes → parent k ≡ root → class_choice t row k ≡ chosen_near points (row k) points ((points - 1) / 2)
    choice_root k h r = choice_from k h ∙ rw (eq-eqb (parent k) root r)

    pub choice_child : (k : ℕ) → k < classes → parent k ≢ root → class_choice t row k ≡ chosen_near points (row k) (reach (parent k)) (class_choice t row (parent k))
    choice_child k h r = choice_from k h ∙ rw (ne_eqb (parent k) root r)
