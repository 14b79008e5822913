-- What a sound book has for the loops over it: where its records stand, what its fields' tests say, and that what is held
-- and what is totalled fits, as far as it is summed; and the mark-to-market total is that of the instruments. Assumes nothing.
use Rattle.std.specs.Prelude.{Ok}
use mathlib.Core.Path.{◌≡◌, sym, ◌∙◌}
use mathlib.Core.Logic.{◌⊎◌, inl, inr}
use mathlib.Core.Bool.{Bool, true, false}
use mathlib.Core.List.{List}
use Prim.Native.Nat.{ℕ, ◌*◌, ◌≤◌, ◌<◌}
use native.Mathlib.Omega.{arith}
use native.Mathlib.Decide.{ℕ_discrete}
use borrow.Author.Tests.{eq-eqb, ne_eqb, le-leb}
use lib.Dec.{eqb}
use lib.IntN.{ℤ, pos, nat_abs, ◌+ℤ◌}
use mir.Syntax.{w64}
use mir.Val.{SFits}
use Rattle.paper.specs.declared.Shape.{Shape}
use Rattle.paper.specs.declared.Position.{Position}
use Rattle.paper.specs.Sums.{sum, only}
use Rattle.paper.specs.Records.{instrument_of, position_of}
use Rattle.paper.specs.Refusals.{position_fits, verdict_of}
use Rattle.paper.specs.Products.{Terms, Positions, terms_of, positions_of, net_of, gross_of, held_of, mark_of, mark_total, mark_of_item}
use Rattle.amount.proofs.Ints.{ints, sign, abs}
use Rattle.amount.proofs.Sums.{sum_cong, sum_swap, sum_one}
use Rattle.ranges.proofs.Bounds.{GoodPosition, GoodPoints}
use Rattle.book.proofs.Sound.{SoundBook, sound_book}
use Rattle.vector.specs.Parts.{mark_at, mark_for, naked_at}
use Rattle.vector.proofs.Signs.{size_plus, size_fits}
use Rattle.vector.proofs.Bounds.{mark_size, naked_size}
use Rattle.vector.proofs.Gross.{sum_size, sum_most, net_most, first_of}

-- the tests of a position, from what they say of it
pub fits_again : (p : Position) (product : ℕ) → GoodPosition p product → position_fits p product ≡ true
unfolding position_fits
fits_again p product g = by g.side g.traded
  where
    by : (p.side ≡ 1) ⊎ (p.side ≡ 2) → (p.traded ≡ 1) ⊎ (p.traded ≡ 0) → position_fits p product ≡ true
    by (inl a) (inl t) = rw (a, t, le-leb 1 p.quantity g.least, le-leb p.quantity 1000000 g.most, g.fits)
    by (inl a) (inr t) = rw (a, t, le-leb 1 p.quantity g.least, le-leb p.quantity 1000000 g.most, g.fits, g.carried t)
    by (inr a) (inl t) = rw (a, t, le-leb 1 p.quantity g.least, le-leb p.quantity 1000000 g.most, g.fits)
    by (inr a) (inr t) = rw (a, t, le-leb 1 p.quantity g.least, le-leb p.quantity 1000000 g.most, g.fits, g.carried t)

-- a sum of n amounts, none above c in size
sum_each : (n c : ℕ) (f : ℕ → ℤ) → ((k : ℕ) → k < n → nat_abs (f k) ≤ c) → nat_abs (sum n f) ≤ n * c
sum_each n c f e =
    omega (ints, sum_size n f (λ k. pos c) (λ k h. omega (ints, e k h)), sum_most n c (λ k. pos c) (λ k h. omega ints))

-- what is at most so large, on top of what there is, fits
pub on_top : (a b : ℤ) → nat_abs a ≤ 4000000000000000000 → nat_abs b ≤ 4000000000000000000 → SFits w64 (a +ℤ b)
on_top a b h k = omega (ints, size_plus a b, abs (a +ℤ b), sign (a +ℤ b))

-- the mark-to-market total, instrument by instrument
pub total_by_item :
    (ts : Terms) (ps : Positions) → ((k : ℕ) → k < ps.many → (ps.each k).instrument < ts.instruments) →
    mark_total ts ps ≡ sum ts.instruments (mark_of_item ts ps)
unfolding mark_total mark_of_item
total_by_item ts ps named =
    let mark : ℕ → ℕ → ℤ = λ i k. mark_of (ts.instrument i) (ps.each k) in
    sym
    (sum_swap ts.instruments ps.many (λ i k. only (eqb (ps.each k).instrument i) (mark i k))
    ∙ sum_cong ps.many (λ k h. sum_one ts.instruments (ps.each k).instrument (λ i. mark i k) (named k h)))

-- a position's share of an instrument: its mark-to-market, or nothing
module _ (b : List ℕ) (s : Shape) (i k : ℕ) where
  pub mark_own : (position_of b s k).instrument ≡ i → mark_for b s i k ≡ mark_at b s k
  mark_own e = rw (eq-eqb (position_of b s k).instrument i e, e)

  pub mark_other : ((position_of b s k).instrument ≡ i → ⊥) → mark_for b s i k ≡ pos 0
  mark_other e = rw (ne_eqb (position_of b s k).instrument i e)

module _ (b : List ℕ) (s : Shape) (sound : verdict_of b ≡ Ok s) where
  pub book : SoundBook b s
  book = sound_book b s sound

  -- where there is an instrument, there is a class, and so are its points
  pub points_of : (i : ℕ) → i < s.instruments → GoodPoints s.points
  points_of i h = book.points (omega (arith, (book.instrument i h).class))

  quantity_most : (k : ℕ) → k < s.positions → (position_of b s k).quantity ≤ 1000000
  quantity_most k h = (book.position k h).good.most

  -- what the first n positions hold of an instrument
  pub net_part : (n i : ℕ) → n ≤ s.positions → nat_abs (net_of (first_of (position_of b s) n) i) ≤ 256000000
  net_part n i h =
      omega (arith, net_most (first_of (position_of b s) n) i 1000000 (λ k l. quantity_most k (omega arith)), book.positions)

  pub gross_part : (n i : ℕ) → n ≤ s.positions → nat_abs (gross_of (first_of (position_of b s) n) i) ≤ 256000000
  unfolding gross_of
  gross_part n i h =
      let g : ℕ → ℤ = λ k. only (eqb (position_of b s k).instrument i) (pos (position_of b s k).quantity) in
      let most : (k : ℕ) → k < n → nat_abs (g k) ≤ 1000000 =
      λ k l. each (eqb (position_of b s k).instrument i) (position_of b s k).quantity (quantity_most k (omega arith)) in
      omega (arith, sum_each n 1000000 g most, book.positions)
    where
      each : (named : Bool) (q : ℕ) → q ≤ 1000000 → nat_abs (only named (pos q)) ≤ 1000000
      each true q l = l
      each false q l = omega arith

  pub position_fits_lem : (k : ℕ) → k < s.positions → position_fits (position_of b s k) (instrument_of b s (position_of b s k).instrument).product ≡ true
  position_fits_lem k h = fits_again _ _ (book.position k h).good

  -- the mark-to-market of a position, and the naked margin of an instrument
  mark_most : (k : ℕ) → k < s.positions → nat_abs (mark_at b s k) ≤ 200000000000000
  mark_most k h =
      let x = (book.position k h).instrument in
      omega (arith, mark_size _ (position_of b s k) (book.instrument _ x).fits (position_fits_lem k h), quantity_most k h)

  mark_for_most : (i k : ℕ) → k < s.positions → nat_abs (mark_for b s i k) ≤ 200000000000000
  mark_for_most i k h = elim (ℕ_discrete (position_of b s k).instrument i) [
    | yes e ↦ rw (mark_own b s i k e) (mark_most k h)
    | no e ↦ rw (mark_other b s i k e) (omega arith)
  ]

  naked_most : (i : ℕ) → i < s.instruments → nat_abs (naked_at b s i) ≤ 51200000000000000
  naked_most i h =
      omega (arith, naked_size (instrument_of b s i) s.points (held_of (positions_of b s) i) 256000000 (book.instrument i h).fits (omega (arith, (points_of i h).least)) (net_part s.positions i (omega arith)))

  -- the totals as far as they are summed, on top of what there was
  pub marks_fit : (n : ℕ) (z : ℤ) → n ≤ s.positions → nat_abs z ≤ 4000000000000000000 → SFits w64 (z +ℤ sum n (mark_at b s))
  marks_fit n z h l =
      on_top z _ l (omega (arith, sum_each n 200000000000000 (mark_at b s) (λ k g. mark_most k (omega arith)), book.positions))

  pub marked_fit : (n i : ℕ) → n ≤ s.positions → SFits w64 (sum n (mark_for b s i))
  marked_fit n i h =
      size_fits _ (omega (arith, sum_each n 200000000000000 (mark_for b s i) (λ k g. mark_for_most i k (omega arith)), book.positions))

  pub nakeds_fit : (n : ℕ) (z : ℤ) → n ≤ s.instruments → nat_abs z ≤ 4000000000000000000 → SFits w64 (z +ℤ sum n (naked_at b s))
  nakeds_fit n z h l =
      on_top z _ l (omega (arith, sum_each n 51200000000000000 (naked_at b s) (λ k g. naked_most k (omega arith)), book.instruments))

  -- every position names an instrument of the book, so the total is that of the instruments
  pub marks_by_item : mark_total (terms_of b s) (positions_of b s) ≡ sum s.instruments (mark_of_item (terms_of b s) (positions_of b s))
  marks_by_item = total_by_item (terms_of b s) (positions_of b s) (λ k h. (book.position k h).instrument)
