use Rattle.paper.specs.Refusals.{Finding}
use Rattle.std.proofs.Common.{◌≡◌, ◌∙◌, ap, List, ℕ, ◌-◌, ◌/◌, length, arith}
use Rattle.std.proofs.Math.Nat.{sub-zero}
use borrow.Author.Tests.{eq-eqb, ne_eqb}
use Rattle.paper.specs.declared.Shape.{Shape}
use Rattle.paper.specs.Records.{count, shape_of}
use Rattle.paper.specs.Refusals.{tests, first_given, finding_at, verdict_from, verdict_of}
use Rattle.book.proofs.Verdicts.{step}
use Rattle.book.proofs.Counts.{shape_le}
use Rattle.book.proofs.scan.Goals as goal

-- what the record's own tests find is the paper's finding
found : (b : List ℕ) (r : ℕ) (s : Shape) (f : Finding) → f ≡ first_given (tests b r s) → s ≡ shape_of b r → f ≡ finding_at b r
unfolding finding_at
found b r s f e h = e ∙ ap (λ (t : Shape). first_given (tests b r t)) h

pub returns-then-book-ne0 : goal.returns-then-book-ne0
unfolding verdict_of
returns-then-book-ne0 c = rw (ne_eqb _ _ c.if-book-ne0.true)

pub loop-r-init : goal.loop-r-init
unfolding verdict_of shape_of count
loop-r-init c = (rw c.first_points.ensures, rw (eq-eqb _ _ c.if-book-ne0.false, sub-zero))

pub invariant_of-next-in-loop-r : goal.invariant_of-next-in-loop-r
invariant_of-next-in-loop-r c = let l = c.loop-r in record { earlier = rw l.invariant.0 (omega (arith, shape_le c.args.book.now l.r)) }

pub returns-in-Err : goal.returns-in-Err
returns-in-Err c =
    let l = c.loop-r in
    let b = c.args.book.now in
    rw (l.invariant.1, step b l.r _ c.loop-r-test.true, ← found b l.r _ _ c.in-Err.ensures l.invariant.0)

pub loop-r-preserved : goal.loop-r-preserved
loop-r-preserved c =
    let l = c.loop-r in
    let b = c.args.book.now in
    (c.counted-before.ensures, l.invariant.1 ∙ rw (step b l.r _ c.loop-r-test.true, ← found b l.r _ _ c.in_default.ensures l.invariant.0))

pub returns : goal.returns
unfolding verdict_from
returns c =
    let l = c.loop-r in
    let e : length c.args.book.now / 32 - l.r ≡ 0 = omega arith in
    rw (l.invariant.1, e, ← l.invariant.0)
