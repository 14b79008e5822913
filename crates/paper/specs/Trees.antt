-- "The window" over trees: results, cross margin, what choice is allowed, its total, and the choice handed back.
use Rattle.std.specs.Prelude.{◌≡◌, ◌≢◌, Bool, cond, ℕ, ◌-◌, ◌/◌, ◌<◌, eqb, ℤ, pos, ◌+ℤ◌, ◌≤ℤ◌}
use Rattle.paper.specs.Sums.{sum, only, rounds, lowest}
use Rattle.paper.specs.Records.{root}
use Rattle.paper.specs.Products.{Terms, Positions, held_of, amount_at}
use Rattle.paper.specs.Windows.{reach_of, Near, lowest_near, chosen_near}

-- classes with their parents (65535: a root) and reaches, instruments with their classes and amounts
pub record Tree : Type 0 where
  pub points : ℕ
  pub classes : ℕ
  pub parent : ℕ → ℕ
  pub reach : ℕ → ℕ
  pub instruments : ℕ
  pub home : ℕ → ℕ
  pub amount : ℕ → ℕ → ℤ

-- the one bridge from a book's terms and positions
abbrev pub tree_of : Terms → Positions → Tree
tree_of ts ps = record {
  points = ts.points;
  classes = ts.classes;
  parent = λ k. (ts.class k).parent;
  reach = λ k. reach_of (ts.class k).share ts.points;
  instruments = ts.instruments;
  home = λ i. (ts.instrument i).class;
  amount = λ i. amount_at (ts.instrument i) ts.points (held_of ps i);
}

module _ (t : Tree) where
  open t use {points, classes, parent, reach, instruments, home, amount}

  -- "65535 for a root"
  abbrev pub is_root : ℕ → Bool
  is_root k = eqb (parent k) root

  -- "A class's result at point i is the sum, over its child classes and instruments, of each child's lowest entry at
  -- points within reach of i"; "A class without children has zeros."
  abbrev pub result_from : (ℕ → ℕ → ℤ) → ℕ → ℕ → ℤ
  result_from row k x =
      sum classes (λ c. only (eqb (parent c) k) (lowest_near points (row c) (reach k) x))
      +ℤ sum instruments (λ i. only (eqb (home i) k) (lowest_near points (amount i) (reach k) x))

  -- children have larger numbers, so as many rounds as there are classes settle every row
  unfoldable pub row_of : ℕ → ℕ → ℤ
  row_of = rounds classes result_from (λ k x. pos 0)

  -- "The cross margin is the sum, over roots, of the root's lowest result." It keeps its sign
  unfoldable pub cross_of : (ℕ → ℕ → ℤ) → ℤ
  cross_of row = sum classes (λ k. only (is_root k) (lowest (row k) 0 (points - 1)))

  -- one point a class (p) and instrument (q), each child's point within half its parent's window of the parent's
  pub record Allowed (p q : ℕ → ℕ) : Type 0 where
    pub class_point : (k : ℕ) → k < classes → p k < points
    pub class_near : (k : ℕ) → k < classes → parent k ≢ root → Near (reach (parent k)) (p (parent k)) (p k)
    pub item_point : (i : ℕ) → i < instruments → q i < points
    pub item_near : (i : ℕ) → i < instruments → Near (reach (home i)) (p (home i)) (q i)

  -- the total of a choice: the instruments' amounts at their points
  unfoldable pub total_of : (ℕ → ℕ) → ℤ
  total_of q = sum instruments (λ i. amount i (q i))

  -- cross is the lowest total of the allowed choices, and the choice p, q is one of these and gives it
  pub record LowestTotal (cross : ℤ) (p q : ℕ → ℕ) : Type 0 where
    pub least : (p' q' : ℕ → ℕ) → Allowed p' q' → cross ≤ℤ total_of q'
    pub allowed : Allowed p q
    pub gives : total_of q ≡ cross

  -- "a root takes its lowest-numbered point with the lowest result": as a child of the middle, with the whole scale in
  -- reach; "a child takes the lowest-numbered point with its lowest entry within its parent's reach of the parent's point"
  abbrev pub choose_from : (ℕ → ℕ → ℤ) → (ℕ → ℕ) → ℕ → ℕ
  choose_from row p k =
      cond (is_root k)
      (chosen_near points (row k) points ((points - 1) / 2))
      (chosen_near points (row k) (reach (parent k)) (p (parent k)))

  -- parents have smaller numbers
  unfoldable pub class_choice : (ℕ → ℕ → ℤ) → ℕ → ℕ
  class_choice row = rounds classes (choose_from row) (λ k. 0)

  unfoldable pub item_choice : (ℕ → ℕ → ℤ) → ℕ → ℕ
  item_choice row i = chosen_near points (amount i) (reach (home i)) (class_choice row (home i))
