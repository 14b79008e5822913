use Rattle.std.proofs.Common.{◌≡◌, ◌∙◌, sym, ap, refl, ◌+◌, ◌-◌, ◌*◌, ◌≤◌, ◌<◌, ◌&&◌, ◌==◌, length, take, drop, get_or, ℕ, zero, suc, List, arith}
use Rattle.std.specs.List.{list_all}
use Rattle.std.proofs.Math.Seq.{drop-cons}
use Rattle.paper.specs.Refusals.{zeros}
use Rattle.record.proofs.Record.zeros.Goals as goal

-- the bytes of a record, one by one or as a part of the book
zeros_are : (b : List ℕ) (r o n : ℕ) → 32 * r + o + n ≤ length b → zeros b r o n ≡ list_all (λ x. x == 0) (take n (drop (32 * r + o) b))
unfolding zeros
zeros_are b r o zero h = refl
zeros_are b r o (suc n) h =
    let l : 32 * r + o < length b = omega arith in
    let e : suc (32 * r + o) ≡ 32 * r + (o + 1) = omega arith in
    rw (drop-cons b (32 * r + o) 0 l, e) (ap (λ t. (get_or b (32 * r + o) 0 == 0) && t) (zeros_are b r (o + 1) n (omega arith)))

pub returns : goal.returns
returns c = let e : 32 * c.args.self.now.number + c.args.o + c.args.n - (32 * c.args.self.now.number + c.args.o) ≡ c.args.n = omega arith in
    c.all_zero.ensures ∙ rw e (sym (zeros_are c.args.self.now.book.now c.args.self.now.number c.args.o c.args.n (omega (arith, c.args.self.now.within))))
