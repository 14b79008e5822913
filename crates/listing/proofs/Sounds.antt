-- The lines of the figures and of the choice handed back are the listing of a sound book. Assumes nothing.
use Rattle.std.specs.Prelude.{Ok, Some}
use Rattle.paper.specs.Refusals.{Verdict}
use mathlib.Core.Path.{◌≡◌, ap, ◌∙◌}
use mathlib.Core.List.{List, [], ◌∷◌}
use Prim.Native.Nat.{ℕ, ◌+◌, ◌*◌, ◌≤◌, ◌<◌}
use native.Mathlib.Nat.{mul-le-mul}
use native.Mathlib.Omega.{arith}
use borrow.Author.Tests.{lt-ltb, le-ltb}
use lib.IntN.{ℤ}
use lib.ListN.{length}
use Rattle.paper.specs.declared.Shape.{Shape}
use Rattle.paper.specs.declared.Totals.{Totals}
use Rattle.paper.specs.Refusals.{verdict_of, verdict_on}
use Rattle.paper.specs.Answers.{walk_of, figures, totals_given, choice_on, choice_for, choice_after, class_point}
use Rattle.paper.specs.Listing.{decimal, line, CLASS, class_line, item_line, listing_for}
use Rattle.book.proofs.Sound.{sound_book}
use Rattle.margin.specs.Items.{item_of}
use Rattle.margin.specs.Run.{Ran}
use Rattle.margin.proofs.Shapes.{points_most}
use Rattle.margin.proofs.Promises.{class_read, item_read}
use Rattle.listing.specs.Page.{class_in, item_text, item_in, figure_lines}
use Rattle.listing.proofs.Pages.{lines_cong}

-- the working buffers of the listing are long enough for every book
pub enough : (b : List ℕ) (s : Shape) (rows choice : ℕ) → verdict_of b ≡ Ok s → 24 * 201 ≤ rows → 88 ≤ choice → verdict_on b rows choice ≡ Ok s
unfolding verdict_on
enough b s rows choice e h l =
    let k = sound_book b s e in
    let p : s.classes * s.points ≤ 24 * 201 = mul-le-mul k.classes (points_most b s k) in
    rw (e, le-ltb rows (s.classes * s.points) (omega arith), le-ltb choice (s.classes + s.instruments) (omega arith))

module _ (b : List ℕ) (s : Shape) (rows : List ℤ) (choice : List ℕ) (code place : ℕ) (totals : Totals) (rows' : List ℤ) (choice' : List ℕ)
    (sound : verdict_of b ≡ Ok s) (room : verdict_on b (length rows) (length choice) ≡ Ok s)
    (ran : Ran b rows choice code place totals rows' choice') where
  chosen : choice' ≡ choice_for (walk_of b s) choice
  unfolding choice_after
  chosen = ran.choice_holds ∙ ap (λ (v : Verdict). choice_on b v choice) room

  totalled : totals ≡ figures b s
  totalled = ran.totals_are ∙ ap (totals_given b) room

  class_line_lem : (k : ℕ) → k < s.classes → class_in choice' k ≡ class_line (walk_of b s) k
  class_line_lem k h = ap (λ (p : ℕ). line CLASS (decimal k ∷ decimal p ∷ [])) (rw chosen (class_read (walk_of b s) choice k h))

  item_line_lem : (i : ℕ) → i < s.instruments → item_in b choice' s.classes i ≡ item_line (walk_of b s) i
  unfolding item_of
  item_line_lem i h =
      let p = class_point choice' (s.classes + i) in
      let l : p < s.points = (ran.lowest s room).allowed.item_point i h in
      let e : item_of b i p ≡ Some ((walk_of b s).tree.amount i p) = rw (sound, lt-ltb i s.instruments h, lt-ltb p s.points l) in
      ap (item_text i p) e
      ∙ ap (λ (q : ℕ). item_text i q (Some ((walk_of b s).tree.amount i q))) (rw chosen (item_read (walk_of b s) choice i h))

  pub listing_is : figure_lines b s totals choice' ≡ listing_for b (Ok s)
  unfolding listing_for
  listing_is = rw (totalled, lines_cong s.classes class_line_lem, lines_cong s.instruments item_line_lem)
