use Rattle.std.proofs.Common.{◌≡◌, ◌∙◌, ℤ}
use lib.IntN.{+ℤ_idl}
use Rattle.paper.specs.Answers.{walk_of, add_mark, add_naked, add_cross, no_totals}
use Rattle.tree.proofs.Filled.{rows_read}
use Rattle.tree.proofs.Read.{cross_held}
use Rattle.tree.proofs.Book.{valid}
use Rattle.margin.proofs.figures.Goals as goal

-- one amount on top of each zero
summed : (mark naked cross same : ℤ) → cross ≡ same → add_cross (add_naked (add_mark no_totals mark) naked) cross ≡ record { mark = mark; naked = naked; cross = same }
summed mark naked cross same e = λ i. record { mark = +ℤ_idl mark i; naked = +ℤ_idl naked i; cross = (+ℤ_idl cross ∙ e) i }

pub invariant_of-held-clause-held : goal.invariant_of-held-clause-held
invariant_of-held-clause-held c =
    let b = c.args.book.now in
    rows_read (walk_of b.bytes.now b.shape) c.fill_rows.new.rows c.args.rows.now c.fill_rows.ensures

pub returns : goal.returns
returns c =
    let b = c.args.book.now in
    let w = walk_of b.bytes.now b.shape in
    let held = rows_read w c.fill_rows.new.rows c.args.rows.now c.fill_rows.ensures in
    record {
      totalled = c.cross.ensures
          ∙ rw (c.nakeds-bare.ensures, c.marks-marked.ensures, c.none.ensures)
          (summed _ _ _ _ (cross_held w.tree (valid b.bytes.now b.shape b.sound) c.fill_rows.new.rows held));
      rows_hold = c.fill_rows.ensures;
      choice_holds = c.choose.ensures;
    }
