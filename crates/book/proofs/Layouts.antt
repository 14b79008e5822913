-- Where the records of each kind stand in a book whose records are clean: classes first, then instruments, then
-- positions. Assumes nothing.
use Rattle.std.specs.Prelude.{Ok}
use mathlib.Core.Path.{◌≡◌, refl, ◌∙◌, sym}
use mathlib.Core.List.{List}
use Prim.Native.Nat.{ℕ, zero, suc, ◌+◌, ◌-◌, ◌≤◌, ◌<◌}
use native.Mathlib.Decide.{ℕ_discrete, dec_lt}
use native.Mathlib.Nat.{add-zero}
use native.Mathlib.Numerals.{add-one}
use native.Mathlib.Omega.{arith}
use borrow.Author.Tests.{eq-eqb, ne_eqb, eqb-false, ltb-false}
use Rattle.paper.specs.Records.{kind_of, kind_at, count}
use Rattle.paper.specs.Refusals.{kind_before, finding_at}
use Rattle.book.proofs.Counts.{count_more}
use Rattle.book.proofs.Verdicts.{AllClean, passed}

-- a letter is of none of the kinds, or of one of the three
kind_most : (letter : ℕ) → kind_of letter ≤ 3
unfolding kind_of
kind_most letter = elim (ℕ_discrete letter 67) [
  | yes e ↦ rw e (omega arith)
  | no e ↦ elim (ℕ_discrete letter 73) [
    | yes f ↦ rw f (omega arith)
    | no f ↦ elim (ℕ_discrete letter 80) [
      | yes g ↦ rw g (omega arith)
      | no g ↦ simp (ne_eqb letter 67 e, ne_eqb letter 73 f, ne_eqb letter 80 g) (omega arith)
    ]
  ]
]

-- a clean record is of one of the kinds, and of none earlier than the record before
pub record Ranked (b : List ℕ) (r : ℕ) : Type 0 where
  pub least : 1 ≤ kind_at b r
  pub most : kind_at b r ≤ 3
  pub order : kind_before b r ≤ kind_at b r

pub ranked : (b : List ℕ) (r : ℕ) → finding_at b r ≡ (Ok tt) → Ranked b r
ranked b r h =
    let p = passed b r h in
    let z : kind_at b r ≡ 0 → ⊥ = eqb-false _ _ p.letter in
    record { least = positive (kind_at b r) z; most = kind_most _; order = ltb-false _ _ p.order }
  where
    positive : (n : ℕ) → (n ≡ 0 → ⊥) → 1 ≤ n
    positive n z = elim (ℕ_discrete n 0) [
      | yes e ↦ absurd (z e)
      | no e ↦ omega arith
    ]

-- a record adds one to its own kind's count, and nothing to another's
pub one_more : (b : List ℕ) (r kind : ℕ) → kind_at b r ≡ kind → count b kind (r + 1) ≡ count b kind r + 1
one_more b r kind h = rw (count_more b kind r, eq-eqb (kind_at b r) kind h)

pub none_more : (b : List ℕ) (r kind : ℕ) → (kind_at b r ≡ kind → ⊥) → count b kind (r + 1) ≡ count b kind r
none_more b r kind h = rw (count_more b kind r, ne_eqb (kind_at b r) kind h) (omega arith)

-- how the first r records lie
pub record Layout (b : List ℕ) (r : ℕ) : Type 0 where
  pub total : count b 1 r + count b 2 r + count b 3 r ≡ r
  pub only_classes : kind_before b r ≤ 1 → count b 2 r + count b 3 r ≡ 0
  pub no_positions : kind_before b r ≤ 2 → count b 3 r ≡ 0
  pub classes : (k : ℕ) → k < count b 1 r → kind_at b k ≡ 1
  pub instruments : (k : ℕ) → count b 1 r ≤ k → k < count b 1 r + count b 2 r → kind_at b k ≡ 2
  pub positions : (k : ℕ) → count b 1 r + count b 2 r ≤ k → k < r → kind_at b k ≡ 3

start : (b : List ℕ) → Layout b 0
unfolding count
start b = record {
  total = refl;
  only_classes = λ h. refl;
  no_positions = λ h. refl;
  classes = λ k h. absurd (omega arith);
  instruments = λ k lo hi. absurd (omega arith);
  positions = λ k lo hi. absurd (omega arith);
}

before_next : (b : List ℕ) (r : ℕ) → kind_before b (r + 1) ≡ kind_at b r
unfolding kind_before
before_next b r = rw add-one

-- one record more, of each kind
module _ (b : List ℕ) (r : ℕ) (l : Layout b r) (o : Ranked b r) where
  other : (kind not-kind : ℕ) → kind_at b r ≡ kind → (kind ≡ not-kind → ⊥) → count b not-kind (r + 1) ≡ count b not-kind r
  other kind not-kind k ne = none_more b r not-kind (λ h. ne (sym k ∙ h))

  next_class : kind_at b r ≡ 1 → Layout b (r + 1)
  next_class k =
      let e1 = one_more b r 1 k in
      let e2 = other 1 2 k (λ h. omega arith) in
      let e3 = other 1 3 k (λ h. omega arith) in
      let z = l.only_classes (omega (arith, o.order)) in
      let t = l.total in
      record {
        total = omega arith;
        only_classes = λ h. omega arith;
        no_positions = λ h. omega arith;
        classes = λ j h. elim (ℕ_discrete j r) [
          | yes e ↦ rw e k
          | no e ↦ l.classes j (omega arith)
        ];
        instruments = λ j lo hi. absurd (omega arith);
        positions = λ j lo hi. absurd (omega arith);
      }

  next_instrument : kind_at b r ≡ 2 → Layout b (r + 1)
  next_instrument k =
      let e1 = other 2 1 k (λ h. omega arith) in
      let e2 = one_more b r 2 k in
      let e3 = other 2 3 k (λ h. omega arith) in
      let z = l.no_positions (omega (arith, o.order)) in
      let t = l.total in
      record {
        total = omega arith;
        only_classes = λ h. absurd (omega (arith, before_next b r));
        no_positions = λ h. omega arith;
        classes = λ j h. l.classes j (omega arith);
        instruments = λ j lo hi. elim (ℕ_discrete j r) [
          | yes e ↦ rw e k
          | no e ↦ l.instruments j (omega arith) (omega arith)
        ];
        positions = λ j lo hi. absurd (omega arith);
      }

  next_position : kind_at b r ≡ 3 → Layout b (r + 1)
  next_position k =
      let e1 = other 3 1 k (λ h. omega arith) in
      let e2 = other 3 2 k (λ h. omega arith) in
      let e3 = one_more b r 3 k in
      let t = l.total in
      record {
        total = omega arith;
        only_classes = λ h. absurd (omega (arith, before_next b r));
        no_positions = λ h. absurd (omega (arith, before_next b r));
        classes = λ j h. l.classes j (omega arith);
        instruments = λ j lo hi. l.instruments j (omega arith) (omega arith);
        positions = λ j lo hi. elim (ℕ_discrete j r) [
          | yes e ↦ rw e k
          | no e ↦ l.positions j (omega arith) (omega arith)
        ];
      }

  next : Layout b (r + 1)
  next = elim (ℕ_discrete (kind_at b r) 1) [
    | yes e ↦ next_class e
    | no e ↦ elim (ℕ_discrete (kind_at b r) 2) [
      | yes f ↦ next_instrument f
      | no f ↦ next_position (omega (arith, o.least, o.most))
    ]
  ]

pub layout : (b : List ℕ) (r : ℕ) → AllClean b 0 r → Layout b r
layout b zero h = start b
layout b (suc r) h =
    rw add-one at (next b r (layout b r (λ k lo hi. h k lo (omega arith))) (ranked b r (h r (omega arith) (omega arith))))

-- a kind that no record from r on is of is not counted any more
pub stay : (b : List ℕ) (kind r m : ℕ) → ((k : ℕ) → r ≤ k → k < r + m → kind_at b k ≡ kind → ⊥) → count b kind (r + m) ≡ count b kind r
stay b kind r zero h = rw add-zero
stay b kind r (suc m) h =
    let e : r + suc m ≡ r + m + 1 = omega arith in
    rw (e, none_more b (r + m) kind (h (r + m) (omega arith) (omega arith))) (stay b kind r m (λ k lo hi. h k lo (omega arith)))

-- what stands before each record of n clean ones
module _ (b : List ℕ) (n : ℕ) (clean : AllClean b 0 n) where
  all : Layout b n
  all = layout b n clean

  upto : (k : ℕ) → k < n → Layout b k
  upto k h = layout b k (λ j lo hi. clean j lo (omega arith))

  rank : (k : ℕ) → k < n → Ranked b k
  rank k h = ranked b k (clean k (omega arith) h)

  -- before a class, as many classes as its number
  pub before_class : (k : ℕ) → k < count b 1 n → count b 1 k ≡ k
  before_class k h =
      let m : k < n = omega (arith, all.total) in
      let l = upto k m in
      omega (arith, l.total, l.only_classes (omega (arith, (rank k m).order, all.classes k h)))

  later_kind : (j : ℕ) → count b 1 n ≤ j → j < n → 2 ≤ kind_at b j
  later_kind j lo hi = elim (dec_lt j (count b 1 n + count b 2 n)) [
    | yes h ↦ omega (arith, all.instruments j lo h)
    | no h ↦ omega (arith, all.positions j (omega arith) hi)
  ]

  -- past the classes, all of them
  pub all_classes : (k : ℕ) → count b 1 n ≤ k → k ≤ n → count b 1 k ≡ count b 1 n
  all_classes k lo hi =
      let e : k + (n - k) ≡ n = omega arith in
      sym (rw e at (stay b 1 k (n - k) (λ j l h f. omega (arith, later_kind j (omega arith) (omega arith)))))

  -- before an instrument, as many of them as its number
  pub before_instrument : (k : ℕ) → count b 1 n ≤ k → k < count b 1 n + count b 2 n → count b 1 n + count b 2 k ≡ k
  before_instrument k lo hi =
      let m : k < n = omega (arith, all.total) in
      let l = upto k m in
      omega (arith, l.total, all_classes k lo (omega arith), l.no_positions (omega (arith, (rank k m).order, all.instruments k lo hi)))

  -- past the instruments, all of them
  pub all_instruments : (k : ℕ) → count b 1 n + count b 2 n ≤ k → k ≤ n → count b 2 k ≡ count b 2 n
  all_instruments k lo hi =
      let e : k + (n - k) ≡ n = omega arith in
      sym (rw e at (stay b 2 k (n - k) (λ j l h f. omega (arith, all.positions j (omega arith) (omega arith)))))

  -- before a position, as many of them as its number
  pub before_position : (k : ℕ) → count b 1 n + count b 2 n ≤ k → k < n → count b 1 n + count b 2 n + count b 3 k ≡ k
  before_position k lo hi =
      omega (arith, (upto k hi).total, all_classes k (omega arith) (omega arith), all_instruments k lo (omega arith))
