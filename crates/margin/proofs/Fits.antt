-- The figures of a sound book, mark-to-market among them, each fit an i64, and its points are on the scale. Assumes nothing.
use Rattle.std.specs.Prelude.{Ok}
use mathlib.Core.Path.{◌≡◌}
use mathlib.Core.List.{List}
use Prim.Native.Nat.{ℕ, ◌<◌}
use native.Mathlib.Omega.{arith}
use lib.IntN.{pos, +ℤ_idl}
use mir.Syntax.{w64}
use mir.Val.{SFits}
use Rattle.paper.specs.declared.Shape.{Shape}
use Rattle.paper.specs.Refusals.{verdict_of}
use Rattle.paper.specs.Products.{mark_total, naked_total}
use Rattle.paper.specs.Trees.{class_choice, item_choice}
use Rattle.paper.specs.Answers.{walk_of, figures}
use Rattle.vector.proofs.Book.{marks_fit, nakeds_fit}
use Rattle.tree.proofs.Bounds.{fits}
use Rattle.tree.proofs.Theorem.{lowest_total}
use Rattle.tree.proofs.Book.{valid, bounds}

module _ (b : List ℕ) (s : Shape) (sound : verdict_of b ≡ Ok s) where
  pub mark_fits : SFits w64 (figures b s).mark
  unfolding mark_total
  mark_fits = rw +ℤ_idl at (marks_fit b s sound s.positions (pos 0) (omega arith) (omega arith))

  pub naked_fits : SFits w64 (figures b s).naked
  unfolding naked_total
  naked_fits = rw +ℤ_idl at (nakeds_fit b s sound s.instruments (pos 0) (omega arith) (omega arith))

  pub cross_fits : SFits w64 (figures b s).cross
  cross_fits = fits _ (bounds b s sound).cross

  pub amount_fits : (i x : ℕ) → i < s.instruments → x < s.points → SFits w64 ((walk_of b s).tree.amount i x)
  amount_fits i x h l = fits _ ((bounds b s sound).amount i x h l)

  pub class_point_lem : (k : ℕ) → k < s.classes → class_choice (walk_of b s).tree (walk_of b s).row k < s.points
  class_point_lem = (lowest_total (walk_of b s).tree (valid b s sound)).allowed.class_point

  pub item_point_lem : (i : ℕ) → i < s.instruments → item_choice (walk_of b s).tree (walk_of b s).row i < s.points
  item_point_lem = (lowest_total (walk_of b s).tree (valid b s sound)).allowed.item_point
