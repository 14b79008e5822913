-- Each public function's contract allows one outcome: one result, and one content of the buffer at exit. And what an evening hands over
-- is of the bytes that its input has, where these are known. Assumes nothing.
use denote.RattleType.{RattleType}
use denote.Param.Laws.{Laws}
use mathlib.Core.Path.{◌≡◌}
use Rattle.std.proofs.Common.{sym, ap, ◌∙◌, List, ◌++◌, Option, None, Some, Ok, append-nil}
use Prim.Native.Nat.{ℕ}
use Rattle.std.specs.Io.KnownBytes.{Appends}
use Rattle.std.specs.declared.io.traits.Read.{Ghosts as Reader}
use Rattle.std.specs.declared.io.traits.Write.{Ghosts as Writer}
use Rattle.paper.specs.Refusals.{verdict_of}
use Rattle.paper.specs.Listing.{listing_of}
use Rattle.amount.proofs.Outcomes.{OneOutcome, OneResult, coincide}
use Rattle.margin.proofs.Counted.{by_book}
use Rattle.listing.specs.Page.{said}
use Rattle.listing.specs.Evening.{Gave}
use Rattle.listing.proofs.evening.Reads as evening-reads
use Rattle.listing.proofs.page.listing.Reads as listing-reads
use Rattle.listing.proofs.page.whole_listing.Reads as whole-listing-reads
use Rattle.listing.proofs.page.reason.Reads as reason-reads
use Rattle.listing.proofs.page.whole_reason.Reads as whole-reason-reads

page : OneResult listing-reads.Post
page κs a x y e f p q =
    by_book a.0.now a.1.0
    (λ b of. coincide (p.of_book b of).answers (q.of_book b of).answers)
    (λ none. coincide (p.of_none none).answers (q.of_none none).answers)

page_out : OneOutcome (λ κs x e. e.1.1.0.now) listing-reads.Post
page_out κs a x y e f p q =
    by_book a.0.now a.1.0
    (λ b of. coincide (p.of_book b of).holds (q.of_book b of).holds)
    (λ none. coincide (p.of_none none).holds (q.of_none none).holds)

same_bytes : {n m : ℕ} → ◌≡◌ {A = Option ℕ} (Some n) (Some m) → n ≡ m
same_bytes e = cc

whole : OneResult whole-listing-reads.Post
whole κs a x y e f p q =
    same_bytes (by_book a.0.bytes.now a.0.whole
    (λ b of. coincide (p.of_book b of).answers (q.of_book b of).answers)
    (λ none. coincide (p.of_none none).answers (q.of_none none).answers))

whole_out : OneOutcome (λ κs x e. e.1.0.now) whole-listing-reads.Post
whole_out κs a x y e f p q =
    by_book a.0.bytes.now a.0.whole
    (λ b of. coincide (p.of_book b of).holds (q.of_book b of).holds)
    (λ none. coincide (p.of_none none).holds (q.of_none none).holds)

reason : OneResult reason-reads.Post
reason κs a x y e f p q =
    by_book a.0.now a.1.0 (λ b of. coincide (p.of_book b of) (q.of_book b of)) (λ none. coincide (p.of_none none) (q.of_none none))

whole_reason : OneResult whole-reason-reads.Post
whole_reason κs a x y e f p q =
    by_book a.0.bytes.now a.0.whole
    (λ b of. coincide (p.of_book b of) (q.of_book b of))
    (λ none. coincide (p.of_none none) (q.of_none none))

-- of an input whose bytes are known the book that came is all of them
whole_book : (from left : Option (List ℕ)) (b c : List ℕ) → from ≡ Some b → Gave from left c → c ≡ b
whole_book from left b c e g = by left (rw e at g)
  where
    by : (left : Option (List ℕ)) → Gave (Some b) left c → c ≡ b
    by None k = absurd k.consumed
    by (Some ys) k = sym (k.consumed ∙ ap (λ (l : List ℕ). c ++ l) k.at_end ∙ append-nil c)

-- so an evening that is whole adds to its outputs the listing of these bytes and what is said of them, and nothing else
module _ (T : RattleType) (L : Laws T) (U : RattleType) (M : Laws U) (V : RattleType) (N : Laws V) (R : Reader T.Denot) (d : _) (W : Writer U.Denot) (d' : _) (E : Writer V.Denot) (d'' : _) where
  told_whole : (κs : _) (a : _) (x : _) (e : _) → evening-reads.Post T U V L M N R d W d' E d'' κs a x e → (b : List ℕ) → R.remaining a.0.now ≡ Some b → x ≡ Ok tt →
      Appends (W.contents a.1.0.now) (W.contents e.1.0.now) (listing_of b) × Appends (E.contents a.1.1.0.now) (E.contents e.1.1.0.now) (said b (verdict_of b))
  told_whole κs a x e p b known whole =
      let h = rw whole at p in
      let is : h.0 ≡ b = whole_book _ _ b h.0 known h.1 in
      rw (← is) (h.2, h.3)
