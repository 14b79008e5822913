use Rattle.std.proofs.Common.{◌≡◌, ◌∙◌, ap, List, ℕ, ℤ, to_z, of_z, rules}
use Rattle.std.specs.Int.{w64}
use Rattle.paper.specs.declared.Totals.{Totals}
use Rattle.margin.specs.Run.{Ran}
use Rattle.desk.proofs.desk_run.Goals as goal

-- the promises are of the numbers, however these are told
told_as : {b : List ℕ} {rows rows' : List ℤ} {choice choice' : List ℕ} {code code' place place' : ℕ} {totals totals' : Totals} → code' ≡ code → place' ≡ place → totals' ≡ totals →
    Ran b rows choice code place totals rows' choice' → Ran b rows choice code' place' totals' rows' choice'
told_as c p t ran = record {
  code_is = c ∙ ran.code_is;
  place_is = p ∙ ran.place_is;
  totals_are = t ∙ ran.totals_are;
  rows_hold = ran.rows_hold;
  choice_holds = ran.choice_holds;
  lowest = λ s h. rw t (ran.lowest s h);
}

pub returns : goal.returns
returns c =
    let t = c.totals-totals in
    let m : to_z w64 (of_z w64 t.result.mark) ≡ t.result.mark = search rules in
    let n : to_z w64 (of_z w64 t.result.naked) ≡ t.result.naked = search rules in
    let x : to_z w64 (of_z w64 t.result.cross) ≡ t.result.cross = search rules in
    told_as
    c.code.ensures
    c.place.ensures
    (λ i. record {
      mark = (m ∙ ap (λ (t : Totals). t.mark) t.ensures) i;
      naked = (n ∙ ap (λ (t : Totals). t.naked) t.ensures) i;
      cross = (x ∙ ap (λ (t : Totals). t.cross) t.ensures) i;
    })
    c.run-answer.ensures
