use Rattle.std.proofs.lemmas.Result.{err_from_is_err_and}
use Rattle.paper.specs.Answers.{answer_code, answer_place, answer_totals}
use Rattle.margin.proofs.Counted.{was_whole, was_torn, ran_whole, ran_torn}
use Rattle.margin.proofs.run_counted.Goals as goal

pub returns : goal.returns
returns c =
    let a = c.args in
    let r = c.run in
    ran_whole a.rows.now a.choice.now (answer_code r.result) (answer_place r.result) (answer_totals r.result) r.new.rows r.new.choice a.kept.now a.size (was_whole _ _ c.in_ok-whole.ensures) r.ensures

pub returns-in_err-whole : goal.returns-in_err-whole
returns-in_err-whole c =
    let a = c.args in
    let p = err_from_is_err_and c.from_residual.result c.from_residual.ensures.1 in
    let t = was_torn _ _ _ c.in_err-whole.ensures in
    rw (p.1, p.2, t.1) (ran_torn a.kept.now a.size a.rows.now a.choice.now t.0)
