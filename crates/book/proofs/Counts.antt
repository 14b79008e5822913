-- The counts of a book's first records. Assumes nothing.
use mathlib.Core.Path.{◌≡◌}
use mathlib.Core.Bool.{cond}
use mathlib.Core.List.{List}
use Prim.Native.Nat.{ℕ, zero, suc, ◌+◌, ◌≤◌}
use native.Mathlib.Decide.{ℕ_discrete}
use native.Mathlib.Numerals.{add-one}
use native.Mathlib.Omega.{arith}
use borrow.Author.Tests.{ne_eqb}
use lib.Dec.{eqb}
use Rattle.paper.specs.declared.Shape.{Shape}
use Rattle.paper.specs.Records.{kind_at, count, shape_of}

-- 1 where record r is of a kind, and 0 where it is not
abbrev pub one : List ℕ → ℕ → ℕ → ℕ
one b r kind = cond (eqb (kind_at b r) kind) 1 0

pub count_more : (b : List ℕ) (kind r : ℕ) → count b kind (r + 1) ≡ count b kind r + one b r kind
unfolding count
count_more b kind r = rw add-one

-- a record is of one kind at most
pub one_kind : (b : List ℕ) (r : ℕ) → one b r 1 + one b r 2 + one b r 3 ≤ 1
one_kind b r = at (kind_at b r)
  where
    at : (k : ℕ) → cond (eqb k 1) 1 0 + cond (eqb k 2) 1 0 + cond (eqb k 3) 1 0 ≤ 1
    at k = elim (ℕ_discrete k 1) [
      | yes e ↦ rw e (omega arith)
      | no e ↦ elim (ℕ_discrete k 2) [
        | yes f ↦ rw f (omega arith)
        | no f ↦ elim (ℕ_discrete k 3) [
          | yes g ↦ rw g (omega arith)
          | no g ↦ simp (ne_eqb k 1 e, ne_eqb k 2 f, ne_eqb k 3 g) (omega arith)
        ]
      ]
    ]

-- so no more records are counted than there are
pub counts_le : (b : List ℕ) (r : ℕ) → count b 1 r + count b 2 r + count b 3 r ≤ r
unfolding count
counts_le b zero = omega arith
counts_le b (suc r) = omega (arith, counts_le b r, one_kind b r)

-- a shape with one record more, of a kind
abbrev pub more : ℕ → Shape → Shape
more kind s = record {
  classes = s.classes + cond (eqb kind 1) 1 0;
  instruments = s.instruments + cond (eqb kind 2) 1 0;
  positions = s.positions + cond (eqb kind 3) 1 0;
  points = s.points;
}

pub shape_more : (b : List ℕ) (r : ℕ) → shape_of b (r + 1) ≡ more (kind_at b r) (shape_of b r)
unfolding shape_of
shape_more b r = rw (count_more b 1 r, count_more b 2 r, count_more b 3 r)

pub shape_next : (b : List ℕ) (r : ℕ) {s : Shape} {kind : ℕ} → s ≡ shape_of b r → kind_at b r ≡ kind → shape_of b (r + 1) ≡ more kind s
shape_next b r e k = rw (e, ← k) (shape_more b r)

pub shape_le : (b : List ℕ) (r : ℕ) → (shape_of b r).classes + (shape_of b r).instruments + (shape_of b r).positions ≤ r
unfolding shape_of
shape_le b r = counts_le b r
