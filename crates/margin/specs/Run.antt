-- The three promises of a run over a book, with the rows and choice lent, and what these hold afterwards.
use Rattle.std.specs.Prelude.{◌≡◌, List, ℕ, ℤ, length, Ok}
use Rattle.paper.specs.declared.Shape.{Shape}
use Rattle.paper.specs.declared.Totals.{Totals}
use Rattle.paper.specs.Refusals.{verdict_on}
use Rattle.paper.specs.Answers.{walk_of, figures, rows_for, choice_for, code_given, place_given, totals_given, rows_after, choice_after, LowestOfBook}

-- the figures of a sound book that has room, and the buffers afterwards
pub record Figured (b : List ℕ) (s : Shape) (rows : List ℤ) (choice : List ℕ) (totals : Totals) (rows' : List ℤ) (choice' : List ℕ) : Type 0 where
  pub totalled : totals ≡ figures b s
  pub rows_hold : rows' ≡ rows_for (walk_of b s) rows
  pub choice_holds : choice' ≡ choice_for (walk_of b s) choice

-- of the answer's numbers: code, place and totals
pub record Ran (b : List ℕ) (rows : List ℤ) (choice : List ℕ) (code place : ℕ) (totals : Totals) (rows' : List ℤ) (choice' : List ℕ) : Type 0 where
  -- the code, the place and the totals, on acceptance and on refusal
  pub code_is : code ≡ code_given (verdict_on b (length rows) (length choice))
  pub place_is : place ≡ place_given (verdict_on b (length rows) (length choice))
  pub totals_are : totals ≡ totals_given b (verdict_on b (length rows) (length choice))
  -- both buffers afterwards: the paper's on acceptance, unaltered on refusal
  pub rows_hold : rows' ≡ rows_after b rows choice
  pub choice_holds : choice' ≡ choice_after b rows choice
  -- on acceptance: no allowed choice has a lower total than the cross margin, and the choice handed back is one and has it
  pub lowest : (s : Shape) → verdict_on b (length rows) (length choice) ≡ Ok s → LowestOfBook b s totals.cross choice'
