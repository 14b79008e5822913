-- Over a buffer that holds the tree's rows, the cross margin and the choice are the tree's. Assumes nothing.
use mathlib.Core.Path.{◌≡◌, sym, ap, ◌∙◌}
use mathlib.Core.List.{List, [], ◌∷◌, ◌++◌}
use Prim.Native.Nat.{ℕ, ◌+◌, ◌-◌, ◌/◌, ◌≤◌, ◌<◌}
use native.Mathlib.Decide.{ℕ_discrete}
use native.Mathlib.Nat.{zero-add, suc-add}
use native.Mathlib.Omega.{arith}
use borrow.Author.Tests.{eq-eqb, ne_eqb}
use lib.IntN.{ℤ, pos}
use lib.ListN.{length, set, get_or, get_or-append}
use Rattle.paper.specs.Sums.{sum, only, listed}
use Rattle.paper.specs.Records.{root}
use Rattle.paper.specs.Windows.{chosen_near}
use Rattle.paper.specs.Trees.{Tree, is_root, row_of, cross_of, choose_from, class_choice}
use Rattle.amount.proofs.Sums.{sum_cong}
use Rattle.amount.proofs.Lists.{listed_length, listed_at}
use Rattle.amount.proofs.Worst.{lowest_cong}
use Rattle.window.specs.Slides.{entry_of}
use Rattle.window.proofs.Near.{near_cong, ChosenNear, chosen_is, chosen_only}
use Rattle.vector.proofs.Listed.{begun}
use Rattle.tree.specs.Buffers.{rows_in, from_root, HoldsRows}
use Rattle.tree.proofs.Rows.{Valid, choice_root, choice_child}
use Rattle.tree.proofs.Theorem.{choice_on_lem}

-- entries that agree have the same point chosen
pub chosen_cong : (p r x : ℕ) {v w : ℕ → ℤ} → x < p → ((y : ℕ) → y < p → v y ≡ w y) → chosen_near p v r x ≡ chosen_near p w r x
chosen_cong p r x {v} {w} h e =
    let i : ChosenNear p v r x (chosen_near p v r x) = chosen_is p v r x h in
    let low = near_cong p r x h e in
    chosen_only p w r x h (record {
      on = i.on;
      near = i.near;
      is = sym (e (chosen_near p v r x) i.on) ∙ i.is ∙ low;
      early = λ y l n m. rw (← low, ← e y l) (i.early y l n m);
    })

-- the point chosen in the list of a function's values is that of the function
pub chosen_listed : (p : ℕ) (v : ℕ → ℤ) (r x : ℕ) → x < p → chosen_near (length (listed p v)) (entry_of (listed p v)) r x ≡ chosen_near p v r x
chosen_listed p v r x h = rw (listed_length p v) (chosen_cong p r x h (λ y l. listed_at p y v (pos 0) l))

module _ (t : Tree) (ok : Valid t) (rows : List ℤ) (holds : HoldsRows t rows) where
  open t use {points, classes, parent, reach, instruments, home, amount}

  pub cross_part : (n : ℕ) → n ≤ classes → sum n (from_root t (rows_in points rows)) ≡ sum n (from_root t (row_of t))
  cross_part n h = sum_cong n (λ k l. ap (only (is_root t k)) (lowest_cong 0 (points - 1) (λ y a b. holds k y (omega arith) (omega (arith, ok.some (omega arith))))))

  pub cross_held : cross_of t (rows_in points rows) ≡ cross_of t (row_of t)
  unfolding cross_of
  cross_held = cross_part classes (omega arith)

  -- the point of a class, from those of the classes before it
  pub class_chosen : (choice : ℕ → ℕ) (k : ℕ) → k < classes → ((j : ℕ) → j < k → choice j ≡ class_choice t (row_of t) j) → choose_from t (rows_in points rows) choice k ≡ class_choice t (row_of t) k
  class_chosen choice k h e = elim (ℕ_discrete (parent k) root) [
    | yes r ↦ rw (eq-eqb (parent k) root r)
        (chosen_cong points points ((points - 1) / 2) (omega (arith, ok.some (omega arith))) (λ y l. holds k y h l)
        ∙ sym (choice_root t ok (row_of t) k h r))
    | no r ↦
        let b = ok.before k h r in
        rw (ne_eqb (parent k) root r, e (parent k) b)
        (chosen_cong points (reach (parent k)) (class_choice t (row_of t) (parent k)) (choice_on_lem t ok (parent k) (omega arith)) (λ y l. holds k y h l)
        ∙ sym (choice_child t ok (row_of t) k h r))
  ]

-- ---- lists that are filled in two parts

pub begun_at : {A : Type 0} (n k : ℕ) (f : ℕ → A) (start : List A) (d : A) → k < n → get_or (begun n f start) k d ≡ f k
begun_at n k f start d h = get_or-append (listed n f) _ d k (rw (listed_length n f) h) ∙ listed_at n k f d h

set_add : {A : Type 0} (xs ys : List A) (k : ℕ) (v : A) → set (xs ++ ys) (length xs + k) v ≡ xs ++ set ys k v
set_add [] ys k v = ap (λ n. set ys n v) (zero-add k)
set_add (x ∷ xs) ys k v = rw (suc-add (length xs) k) (ap (λ l. x ∷ l) (set_add xs ys k v))

pub set_past : {A : Type 0} (xs ys : List A) (n k : ℕ) (v : A) → length xs ≡ n → set (xs ++ ys) (n + k) v ≡ xs ++ set ys k v
set_past xs ys n k v e = rw (← e) (set_add xs ys k v)
