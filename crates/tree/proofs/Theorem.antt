-- The cross margin is the lowest total of the allowed choices: no allowed choice has a lower total, and the choice
-- handed back is allowed and has it. The same holds of some trees of a book alone, those that `keep` keeps.
-- Of the chosen point only this is used: that it is within reach and has the lowest entry. Assumes nothing.
use mathlib.Core.Path.{◌≡◌, refl, sym, ap, ap₂, ◌∙◌}
use mathlib.Core.Logic.{◌≢◌}
use mathlib.Core.Bool.{Bool, true}
use Prim.Native.Nat.{ℕ, zero, suc, ◌-◌, ◌/◌, ◌<◌}
use native.Mathlib.Omega.{arith}
use native.Mathlib.Decide.{ℕ_discrete}
use lib.Dec.{eqb}
use borrow.Author.Tests.{eq-eqb, ne_eqb}
use lib.IntN.{ℤ, pos, ◌+ℤ◌, +ℤ_idl, +ℤ_idr}
use lib.Signed.{◌≤ℤ◌}
use Rattle.paper.specs.Sums.{sum, only, lowest}
use Rattle.paper.specs.Records.{root}
use Rattle.paper.specs.Windows.{lowest_near}
use Rattle.paper.specs.Trees.{Tree, is_root, row_of, cross_of, Allowed, total_of, LowestTotal, class_choice, item_choice}
use Rattle.amount.proofs.Ints.{ints, plus}
use Rattle.amount.proofs.Sums.{sum_cong, sum_mono, sum_add, sum_swap, sum_none, sum_one}
use Rattle.amount.proofs.Worst.{lowest_is}
use Rattle.window.proofs.Near.{near_is, chosen_is, root_is}
use Rattle.tree.proofs.Only.{only_zero, only_mono, only_add, only_swap, only_sum}
use Rattle.tree.proofs.Rows.{Valid, row_is, choice_root, choice_child}

-- the cross margin and a choice's total, of the kept classes alone
unfoldable pub cross_kept : Tree → (ℕ → Bool) → ℤ
cross_kept t keep = sum t.classes (λ k. only (keep k) (only (is_root t k) (lowest (row_of t k) 0 (t.points - 1))))

unfoldable pub total_kept : Tree → (ℕ → Bool) → (ℕ → ℕ) → ℤ
total_kept t keep q = sum t.instruments (λ i. only (keep (t.home i)) (t.amount i (q i)))

-- whole trees are kept: a class with its parent
abbrev pub Whole : Tree → (ℕ → Bool) → Type 0
Whole t keep = (k : ℕ) → k < t.classes → t.parent k ≢ root → keep (t.parent k) ≡ keep k

pub record LowestKept (t : Tree) (keep : ℕ → Bool) : Type 0 where
  pub lower_bound : (p q : ℕ → ℕ) → Allowed t p q → cross_kept t keep ≤ℤ total_kept t keep q
  pub attained : total_kept t keep (item_choice t (row_of t)) ≡ cross_kept t keep

-- the choice handed back is allowed
module _ (t : Tree) (ok : Valid t) where
  open t use {points, classes, parent, reach, instruments, home, amount}

  pub choice_on_lem : (k : ℕ) → k < classes → class_choice t (row_of t) k < points
  choice_on_lem k h = go classes k h h
    where
      go : (n k : ℕ) → k < n → k < classes → class_choice t (row_of t) k < points
      go zero k b h = absurd (omega arith)
      go (suc n) k b h = elim (ℕ_discrete (parent k) root) [
        | yes r ↦ rw (choice_root t ok (row_of t) k h r) (chosen_is points (row_of t k) points ((points - 1) / 2) (omega (arith, ok.some (omega arith)))).on
        | no r ↦ rw (choice_child t ok (row_of t) k h r)
            (chosen_is points (row_of t k) (reach (parent k)) _ (go n (parent k) (omega (arith, ok.before k h r)) (omega (arith, ok.before k h r)))).on
      ]

  choice_allowed : Allowed t (class_choice t (row_of t)) (item_choice t (row_of t))
  unfolding item_choice
  choice_allowed = record {
    class_point = choice_on_lem;
    class_near = λ k h r. rw (choice_child t ok (row_of t) k h r) (chosen_is points (row_of t k) (reach (parent k)) _ (choice_on_lem (parent k) (omega (arith, ok.before k h r)))).near;
    item_point = λ i h. (chosen_is points (amount i) (reach (home i)) _ (choice_on_lem (home i) (ok.housed i h))).on;
    item_near = λ i h. (chosen_is points (amount i) (reach (home i)) _ (choice_on_lem (home i) (ok.housed i h))).near;
  }

-- what a class, an instrument, adds to the kept rows of all classes at the points p
module _ (t : Tree) (keep : ℕ → Bool) where
  open t use {points, classes, parent, reach, instruments, home, amount}

  pub from_class_lem : (ℕ → ℕ) → ℕ → ℤ
  from_class_lem p c = sum classes (λ k. only (eqb (parent c) k) (only (keep k) (lowest_near points (row_of t c) (reach k) (p k))))

  pub from_item_lem : (ℕ → ℕ) → ℕ → ℤ
  from_item_lem p i = sum classes (λ k. only (eqb (home i) k) (only (keep k) (lowest_near points (amount i) (reach k) (p k))))

module _ (t : Tree) (ok : Valid t) (keep : ℕ → Bool) where
  open t use {points, classes, parent, reach, instruments, home, amount}

  -- a test on the parent's or home's number goes outside the test of what is kept
  under : (n k : ℕ) (up : ℕ → ℕ) (z : ℕ → ℤ) → only (keep k) (sum n (λ c. only (eqb (up c) k) (z c))) ≡ sum n (λ c. only (eqb (up c) k) (only (keep k) (z c)))
  under n k up z = only_sum (keep k) n (λ c. only (eqb (up c) k) (z c)) ∙ sum_cong n (λ c l. only_swap (keep k) (eqb (up c) k) (z c))

  -- all kept rows, at the points p, are what the classes and the instruments add to them
  pub flow : (p : ℕ → ℕ) → sum classes (λ k. only (keep k) (row_of t k (p k))) ≡ sum classes (from_class_lem t keep p) +ℤ sum instruments (from_item_lem t keep p)
  unfolding from_class_lem from_item_lem
  flow p =
      sum_cong classes (λ k h.
      ap (λ (v : ℕ → ℤ). only (keep k) (v (p k))) (row_is t ok k h)
      ∙ only_add (keep k) (sum classes (λ c. only (eqb (parent c) k) (lowest_near points (row_of t c) (reach k) (p k)))) (sum instruments (λ i. only (eqb (home i) k) (lowest_near points (amount i) (reach k) (p k))))
      ∙ ap₂ ◌+ℤ◌ (under classes k parent (λ c. lowest_near points (row_of t c) (reach k) (p k))) (under instruments k home (λ i. lowest_near points (amount i) (reach k) (p k))))
      ∙ sum_add classes _ _
      ∙ ap₂ ◌+ℤ◌ (sum_swap classes classes _) (sum_swap classes instruments _)

  pub at_root : (p : ℕ → ℕ) (c : ℕ) → parent c ≡ root → from_class_lem t keep p c ≡ pos 0
  unfolding from_class_lem
  at_root p c r = sum_none classes (parent c) _ (omega (arith, ok.few))

  pub at_child : (p : ℕ → ℕ) (c : ℕ) → c < classes → parent c ≢ root → from_class_lem t keep p c ≡ only (keep (parent c)) (lowest_near points (row_of t c) (reach (parent c)) (p (parent c)))
  unfolding from_class_lem
  at_child p c h r = sum_one classes (parent c) _ (omega (arith, ok.before c h r))

  pub at_item : (p : ℕ → ℕ) (i : ℕ) → i < instruments → from_item_lem t keep p i ≡ only (keep (home i)) (lowest_near points (amount i) (reach (home i)) (p (home i)))
  unfolding from_item_lem
  at_item p i h = sum_one classes (home i) _ (ok.housed i h)

  module _ (whole : Whole t keep) where
    crossing : ℕ → ℤ
    crossing c = only (keep c) (only (is_root t c) (lowest (row_of t c) 0 (points - 1)))

    -- what a class adds to the cross margin and to its parent's row is not above its row at its own point
    class_bound : (p q : ℕ → ℕ) → Allowed t p q → (c : ℕ) → c < classes → (crossing c +ℤ from_class_lem t keep p c) ≤ℤ only (keep c) (row_of t c (p c))
    unfolding crossing
    class_bound p q a c h = elim (ℕ_discrete (parent c) root) [
      | yes r ↦ rw (eq-eqb (parent c) root r, at_root p c r, +ℤ_idr)
          (only_mono (keep c) _ _ ((lowest_is (row_of t c) 0 (points - 1)).below (p c) (omega arith) (omega (arith, a.class_point c h))))
      | no r ↦ rw (ne_eqb (parent c) root r, at_child p c h r, whole c h r, only_zero, +ℤ_idl)
          (only_mono (keep c) _ _ ((near_is points (reach (parent c)) (p (parent c)) (a.class_point (parent c) (omega (arith, ok.before c h r))) (row_of t c)).below (p c) (a.class_point c h) (a.class_near c h r)))
    ]

    item_bound : (p q : ℕ → ℕ) → Allowed t p q → (i : ℕ) → i < instruments → from_item_lem t keep p i ≤ℤ only (keep (home i)) (amount i (q i))
    item_bound p q a i h = rw (at_item p i h)
        (only_mono (keep (home i)) _ _ ((near_is points (reach (home i)) (p (home i)) (a.class_point (home i) (ok.housed i h)) (amount i)).below (q i) (a.item_point i h) (a.item_near i h)))

    bounded : (p q : ℕ → ℕ) → Allowed t p q → cross_kept t keep ≤ℤ total_kept t keep q
    unfolding cross_kept total_kept crossing
    bounded p q a = omega (
      ints,
      flow p,
      sum_mono classes (class_bound p q a),
      sum_mono instruments (item_bound p q a),
      sum_add classes crossing (from_class_lem t keep p),
      plus (sum classes crossing) (sum classes (from_class_lem t keep p)),
      plus (sum classes (from_class_lem t keep p)) (sum instruments (from_item_lem t keep p)),
    )

    -- for the choice handed back both are equalities
    class_chosen : (c : ℕ) → c < classes → crossing c +ℤ from_class_lem t keep (class_choice t (row_of t)) c ≡ only (keep c) (row_of t c (class_choice t (row_of t) c))
    unfolding crossing
    class_chosen c h = elim (ℕ_discrete (parent c) root) [
      | yes r ↦ rw (eq-eqb (parent c) root r, at_root (class_choice t (row_of t)) c r, +ℤ_idr, choice_root t ok (row_of t) c h r)
          (ap (only (keep c)) (sym (root_is points (row_of t c) (ok.some (omega arith)))))
      | no r ↦ rw (ne_eqb (parent c) root r, at_child (class_choice t (row_of t)) c h r, whole c h r, only_zero, +ℤ_idl, choice_child t ok (row_of t) c h r)
          (ap (only (keep c)) (sym (chosen_is points (row_of t c) (reach (parent c)) (class_choice t (row_of t) (parent c)) (choice_on_lem t ok (parent c) (omega (arith, ok.before c h r)))).is))
    ]

    item_chosen : (i : ℕ) → i < instruments → from_item_lem t keep (class_choice t (row_of t)) i ≡ only (keep (home i)) (amount i (item_choice t (row_of t) i))
    unfolding item_choice
    item_chosen i h =
        at_item (class_choice t (row_of t)) i h
        ∙ ap (only (keep (home i))) (sym (chosen_is points (amount i) (reach (home i)) (class_choice t (row_of t) (home i)) (choice_on_lem t ok (home i) (ok.housed i h))).is)

    reached : total_kept t keep (item_choice t (row_of t)) ≡ cross_kept t keep
    unfolding cross_kept total_kept crossing
    reached = omega (
      ints,
      flow (class_choice t (row_of t)),
      sum_cong classes class_chosen,
      sum_cong instruments item_chosen,
      sum_add classes crossing (from_class_lem t keep (class_choice t (row_of t))),
      plus (sum classes crossing) (sum classes (from_class_lem t keep (class_choice t (row_of t)))),
      plus (sum classes (from_class_lem t keep (class_choice t (row_of t)))) (sum instruments (from_item_lem t keep (class_choice t (row_of t)))),
    )

    pub lowest_kept : LowestKept t keep
    lowest_kept = record { lower_bound = bounded; attained = reached }

-- of the whole book, all trees kept
pub lowest_total : (t : Tree) → Valid t → LowestTotal t (cross_of t (row_of t)) (class_choice t (row_of t)) (item_choice t (row_of t))
unfolding cross_kept total_kept cross_of total_of
lowest_total t ok =
    let kept : LowestKept t (λ k. true) = lowest_kept t ok (λ k. true) (λ k h r. refl) in
    record { least = kept.lower_bound; allowed = choice_allowed t ok; gives = kept.attained }
