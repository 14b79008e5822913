use Rattle.std.proofs.Common.{sym, length}
use Rattle.std.proofs.lemmas.Result.{err_from_is_err_and}
use Rattle.margin.proofs.Promises.{room, accepted, turned_down}
use Rattle.margin.proofs.run.Goals as goal

pub invariant_of-sound : goal.invariant_of-sound
invariant_of-sound c = record { sound = (room c.args.book.now _ _ c.in_ok-shape.shape (sym c.in_ok-shape.ensures)).sound }

pub figures-requires : goal.figures-requires
figures-requires c =
    let a = c.args in
    let k = room a.book.now (length a.rows.now) (length a.choice.now) c.in_ok-shape.shape (sym c.in_ok-shape.ensures) in
    record { rows = k.rows_fit; choice = k.choice_fits }

pub returns : goal.returns
returns c =
    let a = c.args in
    let f = c.figures in
    accepted a.book.now a.rows.now a.choice.now c.in_ok-shape.shape f.result f.new.rows f.new.choice (sym c.in_ok-shape.ensures) f.ensures

pub returns-in_err-shape : goal.returns-in_err-shape
returns-in_err-shape c =
    let a = c.args in
    let p = err_from_is_err_and c.from_residual.result c.from_residual.ensures.1 in
    rw (p.1, p.2) (turned_down a.book.now a.rows.now a.choice.now _ _ (sym c.in_err-shape.ensures))
