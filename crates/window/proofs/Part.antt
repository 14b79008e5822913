-- A part of a list: its lowest entry, and the lowest-numbered with it, are those of the list from the part's first point on.
-- Assumes nothing.
use mathlib.Core.Path.{◌≡◌, sym, ap, ◌∙◌}
use mathlib.Core.List.{List}
use Prim.Native.Nat.{ℕ, ◌+◌, ◌-◌, ◌≤◌, ◌<◌}
use native.Mathlib.Omega.{arith}
use lib.IntN.{ℤ, pos}
use lib.ListN.{length, take, drop}
use Rattle.std.proofs.lemmas.List.{get_or-take, get_or-drop, length-take-le, length-drop}
use Rattle.paper.specs.Sums.{lowest}
use Rattle.paper.specs.Windows.{window_from, window_more, lowest_near, chosen_near}
use Rattle.amount.proofs.Ints.{ints}
use Rattle.amount.proofs.Worst.{Lowest, lowest_is, lowest_only}
use Rattle.window.specs.Slides.{entry_of, within, first_lowest}
use Rattle.window.proofs.First.{FirstLowest, first_lowest_is, first_lowest_only}

module _ (v : List ℤ) (a n : ℕ) (h : a + n < length v) where
  abbrev part : List ℤ
  part = take (n + 1) (drop a v)

  part_length : length part ≡ n + 1
  part_length = length-take-le (n + 1) (drop a v) (rw length-drop (omega arith))

  part_at : (y : ℕ) → a ≤ y → y ≤ a + n → entry_of part (y - a) ≡ entry_of v y
  part_at y k l =
      let e : a + (y - a) ≡ y = omega arith in
      get_or-take (n + 1) (drop a v) (y - a) (pos 0) (omega arith) ∙ get_or-drop a v (y - a) (pos 0) ∙ ap (entry_of v) e

  low : Lowest (entry_of v) a n (lowest (entry_of v) a n)
  low = lowest_is (entry_of v) a n

  same : lowest (entry_of part) 0 n ≡ lowest (entry_of v) a n
  same = sym (lowest_only (record {
    below = λ y k l. let e : y + a - a ≡ y = omega arith in omega (ints, low.below (y + a) (omega arith) (omega arith), rw e at (part_at (y + a) (omega arith) (omega arith)));
    at = low.at - a;
    from = omega arith;
    to = omega (arith, low.to);
    is = part_at low.at low.from low.to ∙ low.is;
  }))

  pub lowest_part : lowest (entry_of part) 0 (length part - 1) ≡ lowest (entry_of v) a n
  lowest_part = let e : length part - 1 ≡ n = omega (arith, part_length) in rw e same

  first : FirstLowest (entry_of v) a n (first_lowest (entry_of v) a n)
  first = first_lowest_is (entry_of v) a n

  sooner : first_lowest (entry_of v) a n - a ≡ first_lowest (entry_of part) 0 n
  sooner = first_lowest_only (record {
    from = omega arith;
    to = omega (arith, first.to);
    is = part_at (first_lowest (entry_of v) a n) first.from first.to ∙ first.is ∙ sym same;
    early = λ y k l. let e : y + a - a ≡ y = omega arith in omega (ints, same, first.early (y + a) (omega arith) (omega arith), first.to, rw e at (part_at (y + a) (omega arith) (omega (arith, first.to))));
  })

  pub first_part : a + first_lowest (entry_of part) 0 (length part - 1) ≡ first_lowest (entry_of v) a n
  first_part = let e : length part - 1 ≡ n = omega (arith, part_length) in rw (e, ← sooner) (omega (arith, first.from))

  pub part_on : a + first_lowest (entry_of part) 0 (length part - 1) < length v
  part_on = rw first_part (omega (arith, first.to))

-- the entries within reach of a point
module _ (v : List ℤ) (r x : ℕ) (h : x < length v) where
  on : window_from r x + window_more (length v) r x < length v
  on = omega arith

  pub lowest_within : lowest (entry_of (within v r x)) 0 (length (within v r x) - 1) ≡ lowest_near (length v) (entry_of v) r x
  unfolding lowest_near
  lowest_within = lowest_part v (window_from r x) (window_more (length v) r x) on

  pub first_within : window_from r x + first_lowest (entry_of (within v r x)) 0 (length (within v r x) - 1) ≡ chosen_near (length v) (entry_of v) r x
  unfolding chosen_near lowest_near
  first_within = first_part v (window_from r x) (window_more (length v) r x) on

  pub within_on : window_from r x + first_lowest (entry_of (within v r x)) 0 (length (within v r x) - 1) < length v
  within_on = part_on v (window_from r x) (window_more (length v) r x) on
