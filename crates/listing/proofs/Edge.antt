-- From the bytes that came to the book's listing, and from the listing in the buffer to what is handed over. Assumes nothing.
use Rattle.std.proofs.Common.{◌≡◌, sym, ap, ◌∙◌, ℕ, ◌≤◌, List, ◌++◌, length, take, drop, Option, Some, Result, Ok, Err, OnOk, MatchResult}
use Rattle.std.specs.Result.{IsErrAnd}
use Rattle.std.proofs.Math.Seq.{take_at}
use borrow.Author.Tests.{le-ltb}
use Rattle.intake.specs.Input.{Held, ReadTo}
use Rattle.margin.specs.Counted.{KeptOf}
use Rattle.listing.specs.declared.Failure.{Failure}
use Rattle.listing.specs.declared.Failure.TheVariants.{Unread, Cut, Untold}
use Rattle.listing.specs.Page.{most, Printed}
use Rattle.listing.specs.Evening.{Handed, Told, Published, Gave, Evening}

-- what is handed over of the buffer is the listing
module _ (s out out' : List ℕ) (n : ℕ) (long : most ≤ length out) (p : Printed s out (Some n) out') where
  pub stands : take n out' ≡ s
  stands =
      let e : ◌≡◌ {A = Option ℕ} (Some n) (Some (length s)) = p.answers ∙ rw (le-ltb (length out) most long) in
      let k : n ≡ length s = cc in
      let h : out' ≡ s ++ drop (length s) out = p.holds ∙ rw (le-ltb (length out) most long) in
      ap (take n) h ∙ take_at s (drop (length s) out) n (sym k)

-- what came is the book that was kept and counted
of_came : {b bytes : List ℕ} {whole : ℕ} → Held b bytes whole → KeptOf b bytes whole
of_came h = record { first = h.first; counted = h.counted }

-- what an error's change hands on was so before
pub was_ok : {A E F : Type 0} (P : E → F → Type 0) (r : Result A E) (q : Result A F) (x : A) → MatchResult r (λ y. q ≡ Ok y) (λ e. IsErrAnd q (P e)) → q ≡ Ok x → r ≡ Ok x
was_ok P (Ok y) q x cases h = cc
was_ok P (Err e) (Ok y) x cases h = absurd cases
was_ok P (Err e) (Err f) x cases h = cc

-- how it is published whose listing is handed over, by what is said of the book
module _ {bytes : List ℕ} {whole : ℕ} (out out' err err' : Option (List ℕ)) (handed : Handed bytes whole out out') where
  pub told_or_not : {E : Type 0} {P : E → Failure → Type 0} (said : Result (Unit {0}) E) → OnOk said (Told bytes whole err err') → ((e : E) (f : Failure) → P e f → f ≡ Untold) →
      (ended : Result (Unit {0}) Failure) → MatchResult said (λ u. ended ≡ Ok u) (λ e. IsErrAnd ended (P e)) → Published bytes whole out out' err err' ended
  told_or_not (Ok u) told is (Ok v) cases = (handed, told)
  told_or_not (Ok u) told is (Err f) cases = cc
  told_or_not (Err e) told is (Ok v) cases = absurd cases
  told_or_not (Err e) told is (Err f) cases = rw (is e f cases) handed

-- of what was read to its end, what is published is the book that came
module _ {from from' : Option (List ℕ)} (out out' err err' : Option (List ℕ)) {bytes : List ℕ} {whole : ℕ} (read : ReadTo from from' bytes whole) where
  gave : Gave from from' read.came
  gave = record { consumed = read.consumed; at_end = read.at_end }

  pub of_published : (ended : Result (Unit {0}) Failure) → Published bytes whole out out' err err' ended → Evening from from' out out' err err' ended
  of_published (Ok u) p = (read.came, gave, p.0 read.came (of_came read.held), p.1 read.came (of_came read.held))
  of_published (Err Untold) p = (read.came, gave, p read.came (of_came read.held))
  of_published (Err Cut) p = p
  of_published (Err Unread) p = absurd p
