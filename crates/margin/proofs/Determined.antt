-- Each public function's contract allows one outcome: one result, and one content of each buffer at exit. Assumes nothing.
use Rattle.amount.proofs.Outcomes.{OneOutcome, OneResult, coincide}
use Rattle.margin.proofs.Answers.{same_answer}
use Rattle.margin.proofs.Counted.{by_book}
use Rattle.margin.proofs.run.Reads as run-reads
use Rattle.margin.proofs.scan_counted.Reads as scan-counted-reads
use Rattle.margin.proofs.run_counted.Reads as run-counted-reads
use Rattle.margin.proofs.item_at.Reads as item-at-reads
use Rattle.margin.proofs.item_mark.Reads as item-mark-reads

run_answer : OneResult run-reads.Post
run_answer κs a x y e f p q = same_answer x y (coincide p.code_is q.code_is) (coincide p.place_is q.place_is) (coincide p.totals_are q.totals_are)

run_rows : OneOutcome (λ κs x e. e.1.0.now) run-reads.Post
run_rows κs a x y e f p q = coincide p.rows_hold q.rows_hold

run_choice : OneOutcome (λ κs x e. e.1.1.0.now) run-reads.Post
run_choice κs a x y e f p q = coincide p.choice_holds q.choice_holds

-- of bytes kept and a number counted the outcome is determined, whether there is such a book or none
scan_counted : OneResult scan-counted-reads.Post
scan_counted κs a x y e f p q =
    by_book a.0.now a.1.0 (λ b of. coincide (p.of_book b of) (q.of_book b of)) (λ none. coincide (p.of_none none) (q.of_none none))

counted_answer : OneResult run-counted-reads.Post
counted_answer κs a x y e f p q =
    by_book a.0.now a.1.0
    (λ b of. let l = p.of_book b of in let r = q.of_book b of in same_answer x y (coincide l.code_is r.code_is) (coincide l.place_is r.place_is) (coincide l.totals_are r.totals_are))
    (λ none. let l = p.of_none none in let r = q.of_none none in same_answer x y (coincide l.code_is r.code_is) (coincide l.place_is r.place_is) (coincide l.totals_are r.totals_are))

counted_rows : OneOutcome (λ κs x e. e.1.1.0.now) run-counted-reads.Post
counted_rows κs a x y e f p q =
    by_book a.0.now a.1.0
    (λ b of. coincide (p.of_book b of).rows_hold (q.of_book b of).rows_hold)
    (λ none. coincide (p.of_none none).rows_hold (q.of_none none).rows_hold)

counted_choice : OneOutcome (λ κs x e. e.1.1.1.0.now) run-counted-reads.Post
counted_choice κs a x y e f p q =
    by_book a.0.now a.1.0
    (λ b of. coincide (p.of_book b of).choice_holds (q.of_book b of).choice_holds)
    (λ none. coincide (p.of_none none).choice_holds (q.of_none none).choice_holds)

item_at : OneResult item-at-reads.Post
item_at κs a x y e f = coincide

item_mark : OneResult item-mark-reads.Post
item_mark κs a x y e f = coincide
