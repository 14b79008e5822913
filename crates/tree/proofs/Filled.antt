-- How the rows come to stand in the buffer: what each step of a row's filling leaves, that a row so filled is the paper's
-- where its children's are, and that a buffer whose rows are the paper's is what the paper asks for. Assumes nothing.
use mathlib.Core.Path.{◌≡◌, sym, ap, ap₂, ◌∙◌}
use mathlib.Core.List.{List}
use Prim.Native.Nat.{ℕ, ◌+◌, ◌*◌, ◌/◌, ◌%◌, ◌≤◌, ◌<◌}
use native.Mathlib.Decide.{ℕ_discrete}
use native.Mathlib.Nat.{mul-zero, add-zero, div-add-mod', div-lt_iff_lt-mul, mod-lt, mul-add-div_right, div-eq_of_lt, mul-add-mod_self_right, mod-eq_of_lt}
use native.Mathlib.Omega.{arith}
use lib.IntN.{ℤ, pos, ◌+ℤ◌, +ℤ_idl, +ℤ_idr}
use lib.ListN.{length, take, drop, get_or, take-append-drop, get_or-append}
use lib.Seq.{length-take-le, get_or-take, ext_get_or}
use Rattle.paper.specs.Sums.{sum, listed}
use Rattle.paper.specs.Trees.{Tree, result_from, row_of}
use Rattle.paper.specs.Answers.{Walk, rows_for}
use Rattle.amount.proofs.Sums.{sum_cong}
use Rattle.amount.proofs.Lists.{row_end, listed_length, listed_at}
use Rattle.window.proofs.Near.{near_cong}
use Rattle.vector.proofs.Gross.{sum_next}
use Rattle.tree.specs.Buffers.{rows_in, RowWithin, with_row, EachFits, from_class, from_item, with_class, with_item, with_classes, with_items, result_so_far, ResultFits}
use Rattle.tree.proofs.Rows.{Valid, from_child, row_is}
use Rattle.tree.proofs.Buffers.{row_within, with_cong, with_none, with_length, with_at, with_kept, with_with}

-- ---- one row, filled step by step

module _ (t : Tree) (ok : Valid t) (rows : List ℤ) (k : ℕ) (h : k < t.classes) (room : t.classes * t.points ≤ length rows) where
  open t use {points, classes, parent, reach, instruments, home, amount}

  pub within : RowWithin points rows k
  within = row_within points classes k rows room h

  -- another row k is within the buffer too, and leaves what a class adds to it
  within_again : (f : ℕ → ℤ) → RowWithin points (with_row points rows k f) k
  within_again f = omega (arith, within, with_length points rows k within f)

  kept : (f : ℕ → ℤ) (x c : ℕ) → x < points → c < classes → from_class t (rows_in points (with_row points rows k f)) k x c ≡ from_class t (rows_in points rows) k x c
  kept f x c l m = from_child t ok (rows_in points (with_row points rows k f)) (rows_in points rows) k x h
      (λ c a b. near_cong points (reach k) x l (λ y s. with_kept points rows k within f c y (λ e. omega arith) s)) c m

  -- before the first class or instrument, and after one more
  pub no_class : rows ≡ with_row points rows k (with_classes t rows k 0)
  unfolding sum
  no_class = sym (with_none points rows k within (λ x l. +ℤ_idr (rows_in points rows k x)))

  pub no_item : rows ≡ with_row points rows k (with_items t rows k 0)
  unfolding sum
  no_item = sym (with_none points rows k within (λ x l. +ℤ_idr (rows_in points rows k x)))

  pub class_step : (n x : ℕ) → n < classes → x < points → with_class t (with_row points rows k (with_classes t rows k n)) k n x ≡ with_classes t rows k (n + 1) x
  class_step n x m l =
      ap₂ ◌+ℤ◌ (with_at points rows k within (with_classes t rows k n) x l) (kept (with_classes t rows k n) x n l m)
      ∙ sum_next (rows_in points rows k x) n (from_class t (rows_in points rows) k x)

  pub item_step : (n x : ℕ) → x < points → with_item t (with_row points rows k (with_items t rows k n)) k n x ≡ with_items t rows k (n + 1) x
  item_step n x l =
      ap (λ z. z +ℤ from_item t k x n) (with_at points rows k within (with_items t rows k n) x l)
      ∙ sum_next (rows_in points rows k x) n (from_item t k x)

  next : (f g h : ℕ → ℤ) → ((x : ℕ) → x < points → g x ≡ h x) → with_row points (with_row points rows k f) k g ≡ with_row points rows k h
  next f g h e = with_cong points (with_row points rows k f) k (within_again f) e ∙ with_with points rows k within f h

  pub class_next : (n : ℕ) → n < classes → with_row points (with_row points rows k (with_classes t rows k n)) k (with_class t (with_row points rows k (with_classes t rows k n)) k n) ≡ with_row points rows k (with_classes t rows k (n + 1))
  class_next n m = next _ _ _ (λ x l. class_step n x m l)

  pub item_next : (n : ℕ) → with_row points (with_row points rows k (with_items t rows k n)) k (with_item t (with_row points rows k (with_items t rows k n)) k n) ≡ with_row points rows k (with_items t rows k (n + 1))
  item_next n = next _ _ _ (λ x l. item_step n x l)

  -- row k at zero, then with all classes' share, then with all instruments'
  abbrev pub cleared : List ℤ
  cleared = with_row points rows k (λ x. pos 0)

  abbrev pub summed : List ℤ
  summed = with_row points cleared k (with_classes t cleared k classes)

  pub classes_share : (n x : ℕ) → n ≤ classes → x < points → with_classes t cleared k n x ≡ sum n (from_class t (rows_in points rows) k x)
  classes_share n x m l =
      ap₂ ◌+ℤ◌ (with_at points rows k within (λ x. pos 0) x l) (sum_cong n (λ c g. kept (λ x. pos 0) x c l (omega arith)))
      ∙ +ℤ_idl _

  pub items_share : (n x : ℕ) → x < points → with_items t summed k n x ≡ result_so_far t (rows_in points rows) k x classes n
  items_share n x l =
      ap (λ z. z +ℤ sum n (from_item t k x))
      (with_at points cleared k (within_again (λ x. pos 0)) (with_classes t cleared k classes) x l ∙ classes_share classes x (omega arith) l)

  -- both fit as far as they are summed, where the results do
  pub classes_fit : ResultFits t (rows_in points rows) k → (n : ℕ) → n ≤ classes → EachFits points (with_classes t cleared k n)
  unfolding sum
  classes_fit fit n m x l = rw (classes_share n x m l) (rw +ℤ_idr at (fit x n 0 l m (omega arith)))

  pub items_fit : ResultFits t (rows_in points rows) k → (n : ℕ) → n ≤ instruments → EachFits points (with_items t summed k n)
  items_fit fit n m x l = rw (items_share n x l) (fit x classes n l (omega arith) m)

  pub row_filled : with_row points summed k (with_items t summed k instruments) ≡ with_row points rows k (result_from t (rows_in points rows) k)
  row_filled =
      ap (λ b. with_row points b k (with_items t summed k instruments)) (with_with points rows k within (λ x. pos 0) (with_classes t cleared k classes))
      ∙ next _ _ _ (λ x l. items_share instruments x l)

  -- where the rows of larger numbers are the tree's, so is row k once it is filled
  module _ (done : (c x : ℕ) → k < c → c < classes → x < points → rows_in points rows c x ≡ row_of t c x) where
    abbrev children : (x : ℕ) → x < points → (c : ℕ) → c < classes → from_class t (rows_in points rows) k x c ≡ from_class t (row_of t) k x c
    children x l = from_child t ok (rows_in points rows) (row_of t) k x h (λ c a b. near_cong points (reach k) x l (λ y s. done c y b a s))

    pub result_part : (x n m : ℕ) → x < points → n ≤ classes → result_so_far t (rows_in points rows) k x n m ≡ result_so_far t (row_of t) k x n m
    result_part x n m l a = ap (λ z. z +ℤ sum m (from_item t k x)) (sum_cong n (λ c g. children x l c (omega arith)))

    pub row_done : (c x : ℕ) → k ≤ c → c < classes → x < points → rows_in points (with_row points rows k (result_from t (rows_in points rows) k)) c x ≡ row_of t c x
    row_done c x a b l = elim (ℕ_discrete c k) [
      | yes e ↦ rw e
          (with_at points rows k within (result_from t (rows_in points rows) k) x l
          ∙ result_part x classes instruments l (omega arith)
          ∙ sym (ap (λ (v : ℕ → ℤ). v x) (row_is t ok k h)))
      | no e ↦ with_kept points rows k within (result_from t (rows_in points rows) k) c x e l ∙ done c x (omega arith) b l
    ]

-- ---- the whole buffer

-- points there are where an entry is
some_points : (n p e : ℕ) → e < n * p → 0 < p
some_points n p e h = elim (ℕ_discrete p 0) [
  | yes z ↦ absurd (omega (arith, mul-zero n, rw z at h))
  | no z ↦ omega arith
]

module _ (w : Walk) where
  abbrev size : ℕ
  size = w.tree.classes * w.tree.points

  abbrev entry : ℕ → ℤ
  entry e = w.row (e / w.tree.points) (e % w.tree.points)

  pub rows_are :
      (rows start : List ℤ) → size ≤ length rows → drop size rows ≡ drop size start →
      ((k x : ℕ) → k < w.tree.classes → x < w.tree.points → rows_in w.tree.points rows k x ≡ w.row k x) →
      rows ≡ rows_for w start
  unfolding rows_for
  rows_are rows start h e f =
      let p = w.tree.points in
      let l = length-take-le size rows h in
      let front : take size rows ≡ listed size entry =
      ext_get_or (pos 0) _ _ (l ∙ sym (listed_length size entry)) (λ i g.
      let g' : i < size = omega arith in
      let some = some_points w.tree.classes p i g' in
      get_or-take size rows i (pos 0) g'
      ∙ ap (λ j. get_or rows j (pos 0)) (sym (div-add-mod' i p))
      ∙ f (i / p) (i % p) ((div-lt_iff_lt-mul some).1 g') (mod-lt i some)
      ∙ sym (listed_at size i entry (pos 0) g')) in
      rw (← front, ← e) (sym (take-append-drop size rows))

  pub rows_read :
      (rows start : List ℤ) → rows ≡ rows_for w start → (k x : ℕ) → k < w.tree.classes → x < w.tree.points →
      rows_in w.tree.points rows k x ≡ w.row k x
  unfolding rows_for
  rows_read rows start e k x h l =
      let p = w.tree.points in
      let g : k * p + x < size = omega (arith, row_end k w.tree.classes p h) in
      let some : 0 < p = omega arith in
      rw e
      (get_or-append (listed size entry) _ (pos 0) (k * p + x) (rw (listed_length size entry) g)
      ∙ listed_at size (k * p + x) entry (pos 0) g
      ∙ ap₂ w.row
      (mul-add-div_right some k x ∙ ap (λ d. k + d) (div-eq_of_lt l) ∙ add-zero k)
      (mul-add-mod_self_right k p x ∙ mod-eq_of_lt l))
