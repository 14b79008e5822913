-- No listing is longer than the buffer that the program has for it. Assumes nothing.
use Rattle.std.specs.Prelude.{Ok}
use mathlib.Core.Path.{◌≡◌, ◌∙◌}
use mathlib.Core.List.{List, [], ◌∷◌, ◌++◌}
use Prim.Native.Nat.{ℕ, ◌+◌, ◌^◌, ◌≤◌, ◌<◌}
use native.Mathlib.Omega.{arith}
use lib.IntN.{ℤ}
use lib.ListN.{length, length-append}
use mir.Syntax.{w64}
use mir.Val.{SFits}
use Rattle.paper.specs.declared.Shape.{Shape}
use Rattle.paper.specs.declared.Fault.{Fault}
use Rattle.paper.specs.declared.Fault.TheVariants.{Length, Letter, Order, Limit, Reserved, Reference, Range, Points, Rows, Choice}
use Rattle.paper.specs.Refusals.{verdict_of}
use Rattle.paper.specs.Trees.{class_choice, item_choice}
use Rattle.paper.specs.Answers.{code_of, walk_of, figures}
use Rattle.paper.specs.Listing.{decimal, kroner, fields, line, lines, MTM, NAKED, CROSS, CLASS, ITEM, REFUSED, class_line, item_line, total_lines, listing_for}
use Rattle.book.proofs.Sound.{sound_book}
use Rattle.text.proofs.Decimal.{decimal_length}
use Rattle.kroner.proofs.Signs.{kroner_short}
use Rattle.lines.proofs.Fields.{field_length, end_length}
use Rattle.margin.proofs.Shapes.{points_most}
use Rattle.margin.proofs.Fits.{mark_fits, naked_fits, cross_fits, amount_fits, class_point_lem, item_point_lem}
use Rattle.listing.specs.Page.{refused_line, most}
use Rattle.listing.proofs.Pages.{lines_short}

-- a line of one, two and three fields
one_long : (tag f : List ℕ) → length (line tag (f ∷ [])) ≡ length tag + length f + 2
one_long tag f = length-append tag (fields (f ∷ [])) ∙ omega (arith, field_length f [], end_length)

two_long : (tag f g : List ℕ) → length (line tag (f ∷ g ∷ [])) ≡ length tag + length f + length g + 3
two_long tag f g = length-append tag (fields (f ∷ g ∷ [])) ∙ omega (arith, field_length f (g ∷ []), field_length g [], end_length)

three_long : (tag f g h : List ℕ) → length (line tag (f ∷ g ∷ h ∷ [])) ≡ length tag + length f + length g + length h + 4
three_long tag f g h =
    length-append tag (fields (f ∷ g ∷ h ∷ []))
    ∙ omega (arith, field_length f (g ∷ h ∷ []), field_length g (h ∷ []), field_length h [], end_length)

total_short : (tag : List ℕ) (z : ℤ) → SFits w64 z → length (line tag (kroner z ∷ [])) ≤ length tag + 23
total_short tag z h = omega (arith, one_long tag (kroner z), kroner_short z h.sfits)

code_most : (f : Fault) → code_of f ≤ 10
code_most Length = omega arith
code_most Letter = omega arith
code_most Order = omega arith
code_most Limit = omega arith
code_most Reserved = omega arith
code_most Reference = omega arith
code_most Range = omega arith
code_most Points = omega arith
code_most Rows = omega arith
code_most Choice = omega arith

-- of codes up to 99 and places of a 64-bit number
pub refused_short : (f : Fault) (place : ℕ) → place < 2 ^ 64 → length (refused_line (code_of f) place) ≤ most
refused_short f place h =
    omega (arith, two_long REFUSED (decimal (code_of f)) (decimal place), decimal_length 1 (code_of f) (omega (arith, code_most f)), decimal_length 19 place (omega arith))

module _ (b : List ℕ) (s : Shape) (sound : verdict_of b ≡ Ok s) where
  class_short : (k : ℕ) → k < s.classes → length (class_line (walk_of b s) k) ≤ 13
  class_short k h =
      let ok = sound_book b s sound in
      let p = class_choice (walk_of b s).tree (walk_of b s).row k in
      let l : p < s.points = class_point_lem b s sound k h in
      let m = points_most b s ok in
      omega (arith, two_long CLASS (decimal k) (decimal p), decimal_length 1 k (omega (arith, ok.classes)), decimal_length 2 p (omega arith))

  item_short : (i : ℕ) → i < s.instruments → length (item_line (walk_of b s) i) ≤ 34
  item_short i h =
      let ok = sound_book b s sound in
      let p = item_choice (walk_of b s).tree (walk_of b s).row i in
      let z = (walk_of b s).tree.amount i p in
      let l : p < s.points = item_point_lem b s sound i h in
      let m = points_most b s ok in
      omega (
        arith,
        three_long ITEM (decimal i) (decimal p) (kroner z),
        decimal_length 1 i (omega (arith, ok.instruments)),
        decimal_length 2 p (omega arith),
        kroner_short z (amount_fits b s sound i p h l).sfits,
      )

  totals_short : length (total_lines (figures b s)) ≤ 26 + 28 + 28
  totals_short =
      let f = figures b s in
      let rest = line NAKED (kroner f.naked ∷ []) ++ line CROSS (kroner f.cross ∷ []) in
      omega (
        arith,
        length-append (line MTM (kroner f.mark ∷ [])) rest,
        length-append (line NAKED (kroner f.naked ∷ [])) (line CROSS (kroner f.cross ∷ [])),
        total_short MTM f.mark (mark_fits b s sound),
        total_short NAKED f.naked (naked_fits b s sound),
        total_short CROSS f.cross (cross_fits b s sound),
      )

  pub sound_short : length (listing_for b (Ok s)) ≤ most
  unfolding listing_for
  sound_short =
      let ok = sound_book b s sound in
      let w = walk_of b s in
      omega (
        arith,
        length-append (total_lines (figures b s)) (lines s.classes (class_line w) ++ lines s.instruments (item_line w)),
        length-append (lines s.classes (class_line w)) (lines s.instruments (item_line w)),
        totals_short,
        lines_short s.classes 13 (class_line w) class_short,
        lines_short s.instruments 34 (item_line w) item_short,
        ok.classes,
        ok.instruments,
      )
