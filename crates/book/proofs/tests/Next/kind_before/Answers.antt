use Rattle.std.proofs.Common.{◌≡◌, ◌∙◌, sym, List, ℕ, zero, suc, ◌-◌, ◌<◌, arith}
use Rattle.paper.specs.Records.{kind_at}
use Rattle.paper.specs.Refusals.{kind_before}
use Rattle.book.proofs.tests.Next.kind_before.Goals as goal

before_suc : (b : List ℕ) (r : ℕ) → 0 < r → kind_before b r ≡ kind_at b (r - 1)
unfolding kind_before
before_suc b zero h = absurd (omega arith)
before_suc b (suc r) h = let e : suc r - 1 ≡ r = omega arith in rw e

pub returns-then-self-eq0 : goal.returns-then-self-eq0
unfolding kind_before
returns-then-self-eq0 c = rw c.if-self-eq0.true

pub returns : goal.returns
returns c = c.kind.ensures ∙ sym (before_suc c.args.self.now.this.book.now c.args.self.now.this.number (omega arith))
