use Rattle.std.proofs.Common.{◌≡◌, ◌∙◌, ap, ◌-◌, pos, length, take, arith}
use lib.Seq.{take_at}
use Rattle.paper.specs.Sums.{listed}
use Rattle.paper.specs.Products.{amount_at, naked_of}
use Rattle.amount.proofs.Ints.{back}
use Rattle.amount.proofs.Lists.{listed_length, listed_at}
use Rattle.amount.proofs.Worst.{lowest_cong}
use Rattle.vector.proofs.Item.naked.Goals as goal

pub returns : goal.returns
unfolding naked_of
returns c =
    let s = c.args.self.now in
    let n = s.points in
    let v = amount_at s.instrument n s.held in
    let e : take n c.fill.new.work ≡ listed n v = rw c.fill.ensures (take_at (listed n v) _ n (listed_length n v)) in
    let k : length (take n c.fill.new.work) ≡ n = ap length e ∙ listed_length n v in
    back _ c.lowest.type_inv
    ∙ c.lowest.ensures
    ∙ rw (k, e) (lowest_cong 0 (n - 1) (λ y h l. listed_at n y v (pos 0) (omega arith)))
