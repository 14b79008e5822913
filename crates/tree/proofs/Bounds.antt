-- Every figure of a tree fits. An instrument's amounts are at most its weight times B in size; a class weighs what the
-- instruments of its subtree weigh; so each row is within its class's weight, and the roots weigh no more than all
-- instruments together. Assumes nothing.
use mathlib.Core.Path.{◌≡◌, refl, sym, ap, ◌∙◌}
use mathlib.Core.Bool.{Bool, true, false}
use Prim.Native.Nat.{ℕ, zero, suc, ◌+◌, ◌-◌, ◌*◌, ◌≤◌, ◌<◌}
use native.Mathlib.Nat.{add-mul}
use native.Mathlib.Omega.{arith}
use native.Mathlib.Decide.{ℕ_discrete}
use lib.Dec.{eqb}
use borrow.Author.Tests.{eq-eqb}
use lib.IntN.{ℤ, pos, neg_ℤ, nat_abs, ◌+ℤ◌}
use lib.Signed.{◌≤ℤ◌, ≤ℤ_refl}
use mir.Syntax.{w64}
use mir.Val.{SFits}
use Rattle.paper.specs.Sums.{sum, only, rounds, lowest}
use Rattle.paper.specs.Records.{root}
use Rattle.paper.specs.Windows.{lowest_near}
use Rattle.paper.specs.Trees.{Tree, is_root, result_from, row_of, cross_of, Allowed, total_of}
use Rattle.amount.proofs.Ints.{ints, plus, neg, sign, abs}
use Rattle.amount.proofs.Sums.{sum_mono, sum_zero, sum_one}
use Rattle.amount.proofs.Worst.{Lowest, lowest_is}
use Rattle.window.proofs.Near.{LowestNear, near_is}
use Rattle.tree.specs.Buffers.{result_so_far, from_root}
use Rattle.tree.proofs.Rows.{Valid, row_is}
use Rattle.tree.proofs.Theorem.{lowest_total}

-- z is at most w in size
abbrev Within : ℤ → ℤ → Type 0
Within w z = (neg_ℤ w ≤ℤ z) × (z ≤ℤ w)

within_zero : Within (pos 0) (pos 0)
within_zero = (≤ℤ_refl (pos 0), ≤ℤ_refl (pos 0))

within_add : (w z w' z' : ℤ) → Within w z → Within w' z' → Within (w +ℤ w') (z +ℤ z')
within_add w z w' z' a b = omega (ints, plus w w', plus z z', neg w, neg w', neg (w +ℤ w'))

within_more : (w w' z : ℤ) → Within w z → w ≤ℤ w' → Within w' z
within_more w w' z a h = omega (ints, neg w, neg w')

within_only : (b : Bool) (w z : ℤ) → Within w z → Within (only b w) (only b z)
within_only true w z h = h
within_only false w z h = within_zero

within_sum : (n : ℕ) (w z : ℕ → ℤ) → ((k : ℕ) → k < n → Within (w k) (z k)) → Within (sum n w) (sum n z)
unfolding sum
within_sum zero w z e = within_zero
within_sum (suc n) w z e = within_add (sum n w) (sum n z) (w n) (z n) (within_sum n w z (λ k h. e k (omega arith))) (e n (omega arith))

-- the lowest of entries that are all within w
within_near : (points : ℕ) (v : ℕ → ℤ) (w : ℤ) (r x : ℕ) → x < points → ((y : ℕ) → y < points → Within w (v y)) → Within w (lowest_near points v r x)
within_near points v w r x h e = let i : LowestNear points v r x (lowest_near points v r x) = near_is points r x h v in rw i.is at (e i.at i.on)

within_lowest : (v : ℕ → ℤ) (w : ℤ) (points : ℕ) → 0 < points → ((y : ℕ) → y < points → Within w (v y)) → Within w (lowest v 0 (points - 1))
within_lowest v w points h e = let i : Lowest v 0 (points - 1) (lowest v 0 (points - 1)) = lowest_is v 0 (points - 1) in rw i.is at (e i.at (omega (arith, i.to)))

-- sums of what is nowhere negative
abbrev Gains : ℕ → (ℕ → ℤ) → Type 0
Gains n f = (k : ℕ) → k < n → pos 0 ≤ℤ f k

only_gain : (b : Bool) (z : ℤ) → pos 0 ≤ℤ z → (pos 0 ≤ℤ only b z) × (only b z ≤ℤ z)
only_gain true z h = (h, ≤ℤ_refl z)
only_gain false z h = (≤ℤ_refl (pos 0), h)

sum_gain : (n : ℕ) (f : ℕ → ℤ) → Gains n f → pos 0 ≤ℤ sum n f
sum_gain n f e = omega (ints, sum_mono n {f = λ k. pos 0} {g = f} e, sum_zero n)

sum_part : (n j : ℕ) (f : ℕ → ℤ) → j < n → Gains n f → f j ≤ℤ sum n f
sum_part n j f h e = omega (ints, sum_one n j f h, sum_mono n {f = λ k. only (eqb j k) (f k)} {g = f} (λ k l. (only_gain (eqb j k) (f k) (e k l)).1))

sum_first : (n m : ℕ) (f : ℕ → ℤ) → n ≤ m → Gains m f → sum n f ≤ℤ sum m f
unfolding sum
sum_first n zero f h e = let z : n ≡ 0 = omega arith in rw z (≤ℤ_refl (pos 0))
sum_first n (suc m) f h e = elim (ℕ_discrete n (suc m)) [
  | yes s ↦ rw s (≤ℤ_refl (sum m f +ℤ f m))
  | no s ↦ omega (ints, sum_first n m f (omega arith) (λ k l. e k (omega arith)), e m (omega arith), plus (sum m f) (f m))
]

-- an amount within B a contract, for w i contracts of each instrument, W in all
pub record Weighed (t : Tree) (w : ℕ → ℕ) (B W : ℕ) : Type 0 where
  pub each : (i x : ℕ) → i < t.instruments → x < t.points → nat_abs (t.amount i x) ≤ w i * B
  pub total : sum t.instruments (λ i. pos (w i)) ≤ℤ pos W

-- all weights, times B
sum_times : (n : ℕ) (w : ℕ → ℕ) (B W : ℕ) → sum n (λ i. pos (w i)) ≤ℤ pos W → sum n (λ i. pos (w i * B)) ≤ℤ pos (W * B)
unfolding sum
sum_times zero w B W h = omega ints
sum_times (suc n) w B W h =
    let g : pos 0 ≤ℤ sum n (λ i. pos (w i)) = sum_gain n (λ i. pos (w i)) (λ k l. omega ints) in
    let d : (W - w n) + w n ≡ W = omega (ints, plus (sum n (λ i. pos (w i))) (pos (w n))) in
    let i : sum n (λ i. pos (w i * B)) ≤ℤ pos ((W - w n) * B) = sum_times n w B (W - w n) (omega (ints, plus (sum n (λ i. pos (w i))) (pos (w n)))) in
    let m : (W - w n) * B + w n * B ≡ W * B = sym (add-mul (W - w n) (w n) B) ∙ ap (λ (k : ℕ). k * B) d in
    omega (ints, plus (sum n (λ i. pos (w i * B))) (pos (w n * B)))

-- the tree with one point, at which each instrument's amount is its weight
abbrev weights : Tree → (ℕ → ℕ) → ℕ → Tree
weights t w B = record {
  points = 1;
  classes = t.classes;
  parent = t.parent;
  reach = λ k. 0;
  instruments = t.instruments;
  home = t.home;
  amount = λ i x. pos (w i * B);
}

-- a class's weight: its row there
unfoldable pub weight_of : Tree → (ℕ → ℕ) → ℕ → ℕ → ℤ
weight_of t w B k = row_of (weights t w B) k 0

-- what class c, instrument i, adds to the weight of class k, and class k to the roots' weight
module _ (t : Tree) (w : ℕ → ℕ) (B : ℕ) where
  abbrev child_weight : ℕ → ℕ → ℤ
  child_weight k c = only (eqb (t.parent c) k) (weight_of t w B c)

  abbrev item_weight : ℕ → ℕ → ℤ
  item_weight k i = only (eqb (t.home i) k) (pos (w i * B))

  abbrev pub root_weight : ℕ → ℤ
  root_weight k = only (is_root t k) (weight_of t w B k)

-- the cross margin as far as the first n classes go
abbrev pub cross_so_far : Tree → ℕ → ℤ
cross_so_far t n = sum n (from_root t (row_of t))

-- the naked total as far as the first n instruments go
abbrev pub naked_so_far : Tree → ℕ → ℤ
naked_so_far t n = sum n (λ i. lowest (t.amount i) 0 (t.points - 1))

-- no figure of the tree, and no sum on the way to one, is above L in size
pub record Bounded (t : Tree) (L : ℕ) : Type 0 where
  pub amount : (i x : ℕ) → i < t.instruments → x < t.points → nat_abs (t.amount i x) ≤ L
  pub row : (k x : ℕ) → k < t.classes → x < t.points → nat_abs (row_of t k x) ≤ L
  pub row_part : (k x n m : ℕ) → k < t.classes → x < t.points → n ≤ t.classes → m ≤ t.instruments → nat_abs (result_so_far t (row_of t) k x n m) ≤ L
  pub cross : nat_abs (cross_of t (row_of t)) ≤ L
  pub cross_part : (n : ℕ) → n ≤ t.classes → nat_abs (cross_so_far t n) ≤ L
  pub naked_part : (n : ℕ) → n ≤ t.instruments → nat_abs (naked_so_far t n) ≤ L

-- what is at most 10^17 in size fits an i64
pub fits : (z : ℤ) → nat_abs z ≤ 100000000000000000 → SFits w64 z
fits z h = omega (ints, abs z, sign z)

module _ (t : Tree) (ok : Valid t) (w : ℕ → ℕ) (B W : ℕ) (load : Weighed t w B W) where
  open t use {points, classes, parent, reach, instruments, home, amount}

  sound : Valid (weights t w B)
  sound = record { few = ok.few; some = λ h. omega arith; before = ok.before; housed = ok.housed }

  amount_within : (i x : ℕ) → i < instruments → x < points → Within (pos (w i * B)) (amount i x)
  amount_within i x h l = omega (ints, load.each i x h l, abs (amount i x), neg (pos (w i * B)))

  -- all instruments' weights, and the naked total as far as it is summed
  all_weigh : sum instruments (λ i. pos (w i * B)) ≤ℤ pos (W * B)
  all_weigh = sum_times instruments w B W load.total

  item_weighs : (i : ℕ) → i < instruments → pos (w i * B) ≤ℤ pos (W * B)
  item_weighs i h = omega (ints, all_weigh, sum_part instruments i (λ i. pos (w i * B)) h (λ k l. omega ints))

  naked_within : (n : ℕ) → n ≤ instruments → Within (sum instruments (λ i. pos (w i * B))) (naked_so_far t n)
  naked_within n a =
      within_more (sum n (λ i. pos (w i * B))) (sum instruments (λ i. pos (w i * B))) (naked_so_far t n)
      (within_sum n (λ i. pos (w i * B)) _ (λ i h. within_lowest (amount i) (pos (w i * B)) points (ok.some (omega (arith, ok.housed i (omega arith)))) (λ y e. amount_within i y (omega arith) e)))
      (sum_first n instruments (λ i. pos (w i * B)) a (λ k l. omega ints))

  -- with the window's words open, the window of reach 0 on a scale of one point computes to that point
  rounds_within : (m k x : ℕ) → x < points → Within (rounds m (result_from (weights t w B)) (λ k x. pos 0) k 0) (rounds m (result_from t) (λ k x. pos 0) k x)
  unfolding rounds lowest_near lowest
  rounds_within zero k x h = within_zero
  rounds_within (suc m) k x h =
      within_add _ _ _ _
      (within_sum classes _ _ (λ c l. within_only (eqb (parent c) k) _ _ (within_near points (rounds m (result_from t) (λ k x. pos 0) c) _ (reach k) x h (λ y s. rounds_within m c y s))))
      (within_sum instruments _ _ (λ i l. within_only (eqb (home i) k) _ _ (within_near points (amount i) _ (reach k) x h (λ y s. amount_within i y l s))))

  pub row_within : (k x : ℕ) → x < points → Within (weight_of t w B k) (row_of t k x)
  unfolding row_of weight_of
  row_within k x h = rounds_within classes k x h

  weight_gain : (k : ℕ) → k < classes → pos 0 ≤ℤ weight_of t w B k
  weight_gain k h =
      let i : Within (weight_of t w B k) (row_of t k 0) = row_within k 0 (ok.some (omega arith)) in
      omega (ints, neg (weight_of t w B k))

  -- a class weighs what its children weigh
  weight_is : (k : ℕ) → k < classes → weight_of t w B k ≡ sum classes (child_weight t w B k) +ℤ sum instruments (item_weight t w B k)
  unfolding weight_of lowest_near lowest
  weight_is k h = ap (λ (v : ℕ → ℤ). v 0) (row_is (weights t w B) sound k h)

  -- the roots together weigh at most what all instruments do
  pub roots_weigh : sum classes (root_weight t w B) ≤ℤ pos (W * B)
  unfolding weight_of cross_of total_of lowest
  roots_weigh =
      let a : Allowed (weights t w B) (λ k. 0) (λ i. 0) =
      record { class_point = λ k h. omega arith; class_near = λ k h r. omega arith; item_point = λ i h. omega arith; item_near = λ i h. omega arith } in
      omega (ints, (lowest_total (weights t w B) sound).least (λ k. 0) (λ i. 0) a, all_weigh)

  children_gain : (k : ℕ) → Gains classes (child_weight t w B k)
  children_gain k c h = (only_gain (eqb (parent c) k) (weight_of t w B c) (weight_gain c h)).0

  items_gain : (k : ℕ) → Gains instruments (item_weight t w B k)
  items_gain k i h = (only_gain (eqb (home i) k) (pos (w i * B)) (omega ints)).0

  roots_gain : Gains classes (root_weight t w B)
  roots_gain k h = (only_gain (is_root t k) (weight_of t w B k) (weight_gain k h)).0

  -- a class weighs no more than its parent, and so no more than the roots
  pub class_weighs : (k : ℕ) → k < classes → weight_of t w B k ≤ℤ pos (W * B)
  class_weighs k h = go classes k h h
    where
      go : (n k : ℕ) → k < n → k < classes → weight_of t w B k ≤ℤ pos (W * B)
      go zero k b h = absurd (omega arith)
      go (suc n) k b h = elim (ℕ_discrete (parent k) root) [
        | yes r ↦ omega (ints, roots_weigh, rw (eq-eqb (parent k) root r) at (sum_part classes k (root_weight t w B) h roots_gain))
        | no r ↦
            let u : parent k < k = ok.before k h r in
            omega (
              ints,
              go n (parent k) (omega arith) (omega arith),
              weight_is (parent k) (omega arith),
              rw (eq-eqb (parent k) (parent k) refl) at (sum_part classes k (child_weight t w B (parent k)) h (children_gain (parent k))),
              sum_gain instruments (item_weight t w B (parent k)) (items_gain (parent k)),
              plus (sum classes (child_weight t w B (parent k))) (sum instruments (item_weight t w B (parent k))),
            )
      ]

  -- as far as it is summed, a result is within its class's weight
  pub result_within : (k x n m : ℕ) → k < classes → x < points → n ≤ classes → m ≤ instruments → Within (weight_of t w B k) (result_so_far t (row_of t) k x n m)
  result_within k x n m h l a b =
      within_more (sum n (child_weight t w B k) +ℤ sum m (item_weight t w B k)) (weight_of t w B k) (result_so_far t (row_of t) k x n m)
      (within_add _ _ _ _
      (within_sum n (child_weight t w B k) _ (λ c d. within_only (eqb (parent c) k) _ _ (within_near points (row_of t c) (weight_of t w B c) (reach k) x l (row_within c))))
      (within_sum m (item_weight t w B k) _ (λ i d. within_only (eqb (home i) k) _ _ (within_near points (amount i) (pos (w i * B)) (reach k) x l (λ y e. amount_within i y (omega arith) e)))))
      (omega (
        ints,
        weight_is k h,
        sum_first n classes (child_weight t w B k) a (children_gain k),
        sum_first m instruments (item_weight t w B k) b (items_gain k),
        plus (sum n (child_weight t w B k)) (sum m (item_weight t w B k)),
        plus (sum classes (child_weight t w B k)) (sum instruments (item_weight t w B k)),
      ))

  -- as far as it is summed, the cross margin is within the roots' weight
  pub cross_within : (n : ℕ) → n ≤ classes → Within (sum classes (root_weight t w B)) (cross_so_far t n)
  cross_within n a =
      within_more (sum n (root_weight t w B)) (sum classes (root_weight t w B)) (cross_so_far t n)
      (within_sum n (root_weight t w B) _ (λ k h. within_only (is_root t k) _ _ (within_lowest (row_of t k) (weight_of t w B k) points (ok.some (omega arith)) (row_within k))))
      (sum_first n classes (root_weight t w B) a roots_gain)

  -- all figures are at most L in size where W contracts of B each are
  pub bounded : (L : ℕ) → W * B ≤ L → Bounded t L
  unfolding cross_of
  bounded L e = record {
    amount = λ i x h l. size (pos (w i * B)) (amount i x) (item_weighs i h) (amount_within i x h l);
    row = λ k x h l. size (weight_of t w B k) (row_of t k x) (class_weighs k h) (row_within k x l);
    row_part = λ k x n m h l a b. size (weight_of t w B k) (result_so_far t (row_of t) k x n m) (class_weighs k h) (result_within k x n m h l a b);
    cross = size (sum classes (root_weight t w B)) (cross_so_far t classes) roots_weigh (cross_within classes (omega arith));
    cross_part = λ n a. size (sum classes (root_weight t w B)) (cross_so_far t n) roots_weigh (cross_within n a);
    naked_part = λ n a. size (sum instruments (λ i. pos (w i * B))) (naked_so_far t n) all_weigh (naked_within n a);
  }
    where
      size : (v z : ℤ) → v ≤ℤ pos (W * B) → Within v z → nat_abs z ≤ L
      size v z h i = omega (ints, abs z, sign z, neg v)
