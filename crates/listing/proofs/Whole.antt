-- From the verdict on what was kept to the listing of the whole book, and that its text always fits. Assumes nothing.
use Rattle.std.specs.Prelude.{Ok, Err, Option, None, Some}
use Rattle.std.specs.Option.{unwrap_or}
use Rattle.paper.specs.Refusals.{Verdict, refused}
use mathlib.Core.Path.{◌≡◌, refl, sym, ap, ◌∙◌}
use mathlib.Core.List.{List, ◌++◌}
use Prim.Native.Nat.{ℕ, ◌/◌, ◌^◌, ◌≤◌, ◌<◌}
use native.Mathlib.Decide.{ℕ_discrete}
use native.Mathlib.Omega.{arith}
use borrow.Author.Tests.{lt-ltb, le-ltb}
use lib.ListN.{length, drop, length-append, length-drop}
use Rattle.paper.specs.declared.Shape.{Shape}
use Rattle.paper.specs.declared.Fault.{Fault}
use Rattle.paper.specs.declared.Fault.TheVariants.{Length}
use Rattle.paper.specs.Records.{record_bytes, whole_records}
use Rattle.paper.specs.Refusals.{verdict_of}
use Rattle.paper.specs.Answers.{code_of}
use Rattle.paper.specs.Listing.{listing_for, listing_of}
use Rattle.book.proofs.Verdicts.{refused_out, length_out, same_refused}
use Rattle.margin.specs.Counted.{CountedVerdict}
use Rattle.margin.proofs.Answers.{same_fault}
use Rattle.margin.proofs.Promises.{no_refusal}
use Rattle.margin.proofs.Counted.{by_book, counted_sound, counted_read}
use Rattle.listing.specs.Page.{refused_line, most, Printed, Listed}
use Rattle.listing.proofs.Lengths.{refused_short, sound_short}

-- a refusal's place is a record or the number of records
place_most : (b : List ℕ) (f : Fault) (place : ℕ) → verdict_of b ≡ refused f place → place ≤ whole_records b
place_most b f place e = elim (ℕ_discrete (code_of f) (code_of Length)) [
  | yes h ↦
      let g : verdict_of b ≡ refused Length place = e ∙ ap (λ (x : Fault). refused x place) (same_fault f Length h) in
      omega (arith, (length_out b place g).1)
  | no h ↦ omega (arith, (refused_out b f place (λ k. h (ap code_of k)) e).within)
]

-- no listing of a book, whatever it holds, is longer than the program's buffer
pub listing_short : (b : List ℕ) → length b < 2 ^ 64 → length (listing_of b) ≤ most
unfolding listing_of listing_for
listing_short b h = by (verdict_of b) refl
  where
    by : (v : Verdict) → verdict_of b ≡ v → length (listing_for b v) ≤ most
    by (Ok s) e = sound_short b s e
    by (Err r) e = refused_short r.fault r.place (omega (arith, place_most b r.fault r.place e))

-- where the buffer is too short for some listing there is none
too_short : (s out : List ℕ) → length s ≤ most → length out < most → Printed s out None out
too_short s out l h = let e = lt-ltb (length out) most h in record { fits = l; answers = rw e; holds = rw e }

pub listed_short : (kept : List ℕ) (size : ℕ) (out : List ℕ) → size < 2 ^ 64 → length out < most → Listed kept size out None out
listed_short kept size out few h = record {
  of_book = λ b of. too_short (listing_of b) out (listing_short b (omega (arith, of.counted))) h;
  of_none = λ none. too_short _ out (refused_short Length (size / record_bytes) (omega arith)) h;
}

-- what is printed is the listing of every book that was so kept and counted
module _ (kept : List ℕ) (size : ℕ) (out : List ℕ) {page : Option ℕ} {out' : List ℕ} where
  pub listed_sound : (s : Shape) → CountedVerdict kept size (Ok s) → Printed (listing_for kept (Ok s)) out page out' → Listed kept size out page out'
  unfolding listing_of listing_for
  listed_sound s v a = record {
    of_book = λ b of.
        let e : listing_for kept (Ok s) ≡ listing_of b = ap (listing_for kept) (sym (counted_sound kept size s v)) ∙ counted_read kept size s v listing_for (λ b c g place. refl) b of in
        rw e at a;
    of_none = λ none. absurd (no_refusal (sym (v.of_none none)));
  }

  pub listed_refused : (f : Fault) (place : ℕ) → CountedVerdict kept size (refused f place) → Printed (refused_line (code_of f) place) out page out' → Listed kept size out page out'
  unfolding listing_of listing_for
  listed_refused f place v a = record {
    of_book = λ b of.
        let e : refused_line (code_of f) place ≡ listing_of b = ap (listing_for b) (v.of_book b of) in
        rw e at a;
    of_none = λ none.
        let q : refused f place ≡ refused Length (size / record_bytes) = v.of_none none in
        let same = same_refused Length f place (size / record_bytes) q in
        let e : f ≡ Length = same.0 in
        let g : place ≡ size / record_bytes = same.1 in
        rw (e, g) at a;
  }

-- the program's buffer is never too short, and what was written lies within it
module _ {s out : List ℕ} {out' : List ℕ} where
  in_room : {page : Option ℕ} → most ≤ length out → Printed s out page out' → page ≡ Some (length s)
  in_room h p = p.answers ∙ rw (le-ltb (length out) most h)

  is_short : most ≤ length out → Printed s out None out' → ⊥
  is_short h p = let e : ◌≡◌ {A = Option ℕ} None (Some (length s)) = in_room h p in let z : ◌≡◌ {A = ℕ} 0 1 = cc in omega arith

  is_within : {n : ℕ} → most ≤ length out → Printed s out (Some n) out' → n ≤ most
  is_within {n} h p = let e : ◌≡◌ {A = Option ℕ} (Some n) (Some (length s)) = in_room h p in let f : n ≡ length s = cc in omega (arith, p.fits)

  is_as_long : {page : Option ℕ} → most ≤ length out → Printed s out page out' → length out' ≡ length out
  is_as_long h p =
      let e : out' ≡ s ++ drop (length s) out = p.holds ∙ rw (le-ltb (length out) most h) in
      ap length e ∙ length-append s (drop (length s) out) ∙ rw (length-drop (length s) out) (omega (arith, p.fits))

module _ (kept : List ℕ) (size : ℕ) (out out' : List ℕ) (h : most ≤ length out) where
  never_short : Listed kept size out None out' → ⊥
  never_short l = by_book kept size (λ b of. is_short h (l.of_book b of)) (λ none. is_short h (l.of_none none))

  pub unwrapped : (page : Option ℕ) → Listed kept size out page out' → Listed kept size out (Some (unwrap_or page 0)) out'
  unwrapped (Some n) l = l
  unwrapped None l = absurd (never_short l)

  pub within : (n : ℕ) → Listed kept size out (Some n) out' → n ≤ most
  within n l = by_book kept size (λ b of. is_within h (l.of_book b of)) (λ none. is_within h (l.of_none none))

  pub as_long : (page : Option ℕ) → Listed kept size out page out' → length out' ≡ length out
  as_long page l = by_book kept size (λ b of. is_as_long h (l.of_book b of)) (λ none. is_as_long h (l.of_none none))
