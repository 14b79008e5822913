-- A sound book's tree is a tree, and all its figures fit. Assumes nothing.
use Rattle.std.specs.Prelude.{Ok}
use mathlib.Core.Path.{◌≡◌}
use mathlib.Core.Logic.{◌≢◌, ⊎_elim}
use mathlib.Core.List.{List}
use Prim.Native.Nat.{ℕ, ◌*◌, ◌<◌}
use native.Mathlib.Nat.{mul_comm}
use native.Mathlib.Omega.{arith}
use lib.IntN.{pos, nat_abs}
use lib.Signed.{◌≤ℤ◌}
use Rattle.paper.specs.declared.Shape.{Shape}
use Rattle.paper.specs.Sums.{sum}
use Rattle.paper.specs.Records.{root, class_of, instrument_of}
use Rattle.paper.specs.Refusals.{verdict_of}
use Rattle.paper.specs.Products.{positions_of, held_of, gross_of}
use Rattle.paper.specs.Answers.{walk_of}
use Rattle.amount.proofs.Ints.{ints, sign, abs}
use Rattle.amount.proofs.Sums.{sum_cong}
use Rattle.book.proofs.Sound.{SoundBook, sound_book}
use Rattle.vector.proofs.Bounds.{amount_size}
use Rattle.vector.proofs.Gross.{sum_most, net_gross, net_size, quantities, gross_total}
use Rattle.vector.proofs.Book.{points_of}
use Rattle.tree.proofs.Rows.{Valid}
use Rattle.tree.proofs.Bounds.{Weighed, Bounded, bounded}

-- a child's parent has the smaller number, and an instrument's class is one of the book's
pub parent_before : (b : List ℕ) (s : Shape) (k : ℕ) → verdict_of b ≡ Ok s → k < s.classes → (class_of b k).parent ≢ root → (class_of b k).parent < k
parent_before b s k sound h n = ⊎_elim (λ e. absurd (n e)) (λ l. l) ((sound_book b s sound).class k h).parent

pub home_within : (b : List ℕ) (s : Shape) (i : ℕ) → verdict_of b ≡ Ok s → i < s.instruments → (instrument_of b s i).class < s.classes
home_within b s i sound h = ((sound_book b s sound).instrument i h).class

-- all classes have the points of the book
pub class_points : (b : List ℕ) (s : Shape) (k : ℕ) → verdict_of b ≡ Ok s → k < s.classes → (class_of b k).points ≡ s.points
class_points b s k sound h = ((sound_book b s sound).class k h).points

-- the contracts that the book holds of instrument i, bought and sold together
unfoldable pub weight_in : List ℕ → Shape → ℕ → ℕ
weight_in b s i = nat_abs (gross_of (positions_of b s) i)

module _ (b : List ℕ) (s : Shape) (sound : verdict_of b ≡ Ok s) where
  book : SoundBook b s
  book = sound_book b s sound

  pub valid : Valid (walk_of b s).tree
  valid = record {
    few = omega (arith, book.classes);
    some = λ h. omega (arith, (book.points h).least);
    before = λ k h n. parent_before b s k sound h n;
    housed = λ i h. home_within b s i sound h;
  }

  contracts : sum s.instruments (λ i. pos (weight_in b s i)) ≤ℤ pos 256000000
  unfolding weight_in
  contracts =
      let ps = positions_of b s in
      let same = sum_cong s.instruments {f = λ i. pos (nat_abs (gross_of ps i))} {g = gross_of ps} (λ i h. omega (ints, net_gross ps i, abs (gross_of ps i), sign (gross_of ps i))) in
      let most : quantities ps ≤ℤ pos (s.positions * 1000000) = sum_most s.positions 1000000 _ (λ k h. omega (ints, (book.position k h).good.most)) in
      omega (ints, same, most, gross_total ps s.instruments, book.positions)

  pub weighed : Weighed (walk_of b s).tree (weight_in b s) 200000000 256000000
  unfolding weight_in
  weighed =
      let ps = positions_of b s in
      record {
        each = λ i x h l. rw (mul_comm (nat_abs (gross_of ps i)) 200000000)
            (amount_size (instrument_of b s i) s.points (held_of ps i) x (nat_abs (gross_of ps i)) (book.instrument i h).fits (omega (arith, (points_of b s sound i h).least)) l (net_size ps i));
        total = contracts;
      }

  -- no figure, and no sum on the way to one, is above 10^17 in size
  pub bounds : Bounded (walk_of b s).tree 100000000000000000
  bounds = bounded (walk_of b s).tree valid (weight_in b s) 200000000 256000000 weighed 100000000000000000 (omega arith)
