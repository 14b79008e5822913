use Rattle.std.proofs.Common.{◌∙◌, ap, sym, ◌/◌, length, arith}
use Rattle.std.proofs.lemmas.Result.{err_from_is_err_and}
use Rattle.paper.specs.Refusals.{Verdict, verdict_on, with_room}
use Rattle.book.proofs.Sound.{SoundBook, sound_book}
use Rattle.margin.proofs.Shapes.{points_most}
use Rattle.margin.proofs.admitted.Goals as goal

pub with_room-requires : goal.with_room-requires
with_room-requires c =
    let b = c.args.book.now in
    let s = c.in_ok-shape.shape in
    let ok : SoundBook b s = sound_book b s (sym c.in_ok-shape.ensures) in
    (ok.classes, ok.instruments, omega (arith, points_most b s ok))

pub returns : goal.returns
unfolding verdict_on
returns c =
    let a = c.args in
    c.with_room.ensures ∙ ap (λ (v : Verdict). with_room v (length a.book.now / 32) a.rows a.choice) c.in_ok-shape.ensures

pub returns-in_err-shape : goal.returns-in_err-shape
unfolding verdict_on
returns-in_err-shape c =
    let a = c.args in
    let p = err_from_is_err_and c.from_residual.result c.from_residual.ensures.1 in
    rw (p.1, p.2) (ap (λ (v : Verdict). with_room v (length a.book.now / 32) a.rows a.choice) c.in_err-shape.ensures)
