-- What was kept of a book, with its length, has the verdict and the run of the whole; and whether there is such a book.
-- Assumes nothing.
use Rattle.std.specs.Prelude.{Result, Ok, Err}
use Rattle.paper.specs.Refusals.{Verdict, refused}
use mathlib.Core.Path.{◌≡◌, refl, sym, ap, subst, ◌∙◌}
use mathlib.Core.Bool.{Bool, true, false, cond}
use mathlib.Core.List.{List, ◌++◌, append-nil}
use Prim.Native.Nat.{ℕ, ◌-◌, ◌/◌, ◌%◌, ◌≤◌, min}
use native.Mathlib.Decide.{ℕ_discrete, dec_lt}
use native.Mathlib.Omega.{arith}
use borrow.Author.Tests.{eq-eqb, eqb-true}
use lib.Dec.{eqb}
use lib.IntN.{ℤ}
use lib.ListN.{length, take, replicate, length-append, length-replicate, length-take}
use lib.Seq.{take_all, take_at}
use Rattle.paper.specs.declared.Fault.{Fault}
use Rattle.paper.specs.declared.Fault.TheVariants.{Length}
use Rattle.paper.specs.declared.Shape.{Shape}
use Rattle.paper.specs.declared.Refusal.{Refusal}
use Rattle.paper.specs.declared.Totals.{Totals}
use Rattle.paper.specs.Records.{record_bytes, whole_records}
use Rattle.paper.specs.Refusals.{length_fault, verdict_of, verdict_on}
use Rattle.paper.specs.Answers.{code_of, no_totals, rows_after, choice_after}
use Rattle.paper.specs.Listing.{kept_records, kept_bytes}
use Rattle.ranges.proofs.Choices.{both}
use Rattle.book.proofs.Sound.{never_longer}
use Rattle.book.proofs.Verdicts.{whole_length, length_in, all_sound}
use Rattle.book.proofs.Kept.{kept}
use Rattle.margin.specs.Run.{Ran}
use Rattle.margin.specs.Counted.{KeptOf, OfNoBook, whole_kept, CountedVerdict, CountedRan}
use Rattle.margin.proofs.Promises.{no_refusal, turned_down}

-- what the test of the two numbers says, passed and not
pub was_whole : (t : Bool) (r : Refusal) {u : Unit {0}} → ◌≡◌ {A = Result (Unit {0}) Refusal} (Ok u) (cond t (Ok tt) (Err r)) → t ≡ true
was_whole true r e = refl
was_whole false r e = absurd (let z : ◌≡◌ {A = ℕ} 0 1 = cc in omega arith)

pub was_torn : (t : Bool) (q r : Refusal) → ◌≡◌ {A = Result (Unit {0}) Refusal} (Err q) (cond t (Ok tt) (Err r)) → (t ≡ false) × (q ≡ r)
was_torn true q r e = absurd (let z : ◌≡◌ {A = ℕ} 0 1 = cc in omega arith)
was_torn false q r e = (refl, cc)

-- what a verdict on the kept book means for the whole one: all of it was kept, or both are refused alike
pub data Alike (b : List ℕ) : Type 0 where
  all_kept : take kept_bytes b ≡ b → Alike b
  both_refused : (f : Fault) (place : ℕ) → verdict_of b ≡ refused f place → verdict_of (take kept_bytes b) ≡ refused f place → Alike b

long : (b : List ℕ) (v : Verdict) → verdict_of b ≡ v → length_fault b ≡ false → kept_records ≤ whole_records b → Alike b
long b (Ok s) e w h = absurd (never_longer b s (omega arith) e)
long b (Err r) e w h = both_refused r.fault r.place e (sym (kept b w h) ∙ e)

pub alike : (b : List ℕ) → length_fault b ≡ false → Alike b
alike b w = elim (dec_lt (whole_records b) kept_records) [
  | yes h ↦ all_kept (take_all kept_bytes b (omega (arith, whole_length b w)))
  | no h ↦ long b (verdict_of b) refl w (omega arith)
]

-- anything that is read of a book and its verdict, and of a refusal alone where it is refused, is the same of what was kept
pub of_kept : {A : Type 0} (f : List ℕ → Verdict → A) → ((b c : List ℕ) (g : Fault) (place : ℕ) → f b (refused g place) ≡ f c (refused g place)) →
    (b : List ℕ) → Alike b → f (take kept_bytes b) (verdict_of (take kept_bytes b)) ≡ f b (verdict_of b)
of_kept f same b (all_kept e) = rw e
of_kept f same b (both_refused g place e k) = rw (e, k) (same (take kept_bytes b) b g place)

-- ---- which bytes and numbers are of a book

kept_length : {b k : List ℕ} {size : ℕ} → KeptOf b k size → length k ≡ min kept_bytes size
kept_length {b} {k} {size} of = ap length of.first ∙ length-take kept_bytes b ∙ ap (min kept_bytes) (sym of.counted)

pub no_book : (k : List ℕ) (size : ℕ) → (length k ≡ min kept_bytes size → ⊥) → OfNoBook k size
no_book k size h b of = h (kept_length of)

-- any bytes in place of those that were only counted
pub some : List ℕ → ℕ → List ℕ
some k size = k ++ replicate (size - length k) 0

pub a_book : (k : List ℕ) (size : ℕ) → length k ≡ min kept_bytes size → KeptOf (some k size) k size
unfolding some
a_book k size h =
    let rest : List ℕ = replicate (size - length k) 0 in
    let n : length rest ≡ size - length k = length-replicate (size - length k) 0 in
    record {
      first = elim (dec_lt kept_bytes size) [
        | yes l ↦ sym (take_at k rest kept_bytes (omega arith))
        | no l ↦
            let z : size - length k ≡ 0 = omega arith in
            sym (rw (z, append-nil) (take_all kept_bytes k (omega arith)))
      ];
      counted = omega (arith, length-append k rest);
    }

-- ---- kept whole, and not

module _ (b k : List ℕ) (size : ℕ) (of : KeptOf b k size) where
  whole_of : whole_kept (length k) size ≡ true → length_fault b ≡ false
  whole_of h =
      let z : size % record_bytes ≡ 0 = eqb-true _ _ (both (eqb (length k) (min kept_bytes size)) (eqb (size % record_bytes) 0) h).1 in
      let e : length b % record_bytes ≡ 0 = rw of.counted at z in
      rw (eq-eqb (length b % record_bytes) 0 e)

  torn_of : whole_kept (length k) size ≡ false → length_fault b ≡ true
  torn_of h =
      let e : eqb (size % record_bytes) 0 ≡ false = rw (eq-eqb (length k) (min kept_bytes size) (kept_length of)) at h in
      let f : eqb (length b % record_bytes) 0 ≡ false = rw of.counted at e in
      rw f

  whole_verdict : whole_kept (length k) size ≡ true → verdict_of k ≡ verdict_of b
  whole_verdict h = ap verdict_of of.first ∙ of_kept (λ c v. v) (λ b c g place. refl) b (alike b (whole_of h))

  torn_verdict : whole_kept (length k) size ≡ false → verdict_of b ≡ refused Length (size / record_bytes)
  torn_verdict h = length_in b (torn_of h) ∙ ap (λ (n : ℕ). refused Length (n / record_bytes)) (sym of.counted)

-- what is kept whole is of a book
some_book : (k : List ℕ) (size : ℕ) → whole_kept (length k) size ≡ true → KeptOf (some k size) k size
some_book k size h = a_book k size (eqb-true _ _ (both (eqb (length k) (min kept_bytes size)) (eqb (size % record_bytes) 0) h).0)

module _ (k : List ℕ) (size : ℕ) where
  pub counted_whole : whole_kept (length k) size ≡ true → CountedVerdict k size (verdict_of k)
  counted_whole h = record { of_book = λ b of. whole_verdict b k size of h; of_none = λ none. absurd (none (some k size) (some_book k size h)) }

  pub counted_torn : whole_kept (length k) size ≡ false → CountedVerdict k size (refused Length (size / record_bytes))
  counted_torn h = record { of_book = λ b of. sym (torn_verdict b k size of h); of_none = λ none. refl }

-- ---- the run

module _ (rows : List ℤ) (choice : List ℕ) (code place : ℕ) (totals : Totals) (rows' : List ℤ) (choice' : List ℕ) where
  -- the run of what was kept is that of the whole book
  carried : (b : List ℕ) → Alike b → Ran (take kept_bytes b) rows choice code place totals rows' choice' → Ran b rows choice code place totals rows' choice'
  unfolding verdict_on rows_after choice_after
  carried b (all_kept e) ran = subst (λ (c : List ℕ). Ran c rows choice code place totals rows' choice') e ran
  carried b (both_refused f p e k) ran = record {
    code_is = rw e (rw k at ran.code_is);
    place_is = rw e (rw k at ran.place_is);
    totals_are = rw e (rw k at ran.totals_are);
    rows_hold = rw e (rw k at ran.rows_hold);
    choice_holds = rw e (rw k at ran.choice_holds);
    lowest = λ s h. absurd (no_refusal (rw e at h));
  }

  pub ran_whole : (k : List ℕ) (size : ℕ) → whole_kept (length k) size ≡ true → Ran k rows choice code place totals rows' choice' → CountedRan k size rows choice code place totals rows' choice'
  ran_whole k size h ran = record {
    of_book = λ b of. carried b (alike b (whole_of b k size of h)) (subst (λ (c : List ℕ). Ran c rows choice code place totals rows' choice') of.first ran);
    of_none = λ none. absurd (none (some k size) (some_book k size h));
  }

pub ran_torn : (k : List ℕ) (size : ℕ) (rows : List ℤ) (choice : List ℕ) → whole_kept (length k) size ≡ false → CountedRan k size rows choice (code_of Length) (size / record_bytes) no_totals rows choice
unfolding verdict_on
ran_torn k size rows choice h = record {
  of_book = λ b of. turned_down b rows choice Length (size / record_bytes) (rw (torn_verdict b k size of h));
  of_none = λ none. record { code_is = refl; place_is = refl; totals_are = refl; rows_hold = refl; choice_holds = refl };
}

-- of bytes kept and a number counted there is a book, or there is none
pub by_book : {B : Type 0} (k : List ℕ) (size : ℕ) → ((b : List ℕ) → KeptOf b k size → B) → (OfNoBook k size → B) → B
by_book k size of_some none = elim (ℕ_discrete (length k) (min kept_bytes size)) [
  | yes h ↦ of_some (some k size) (a_book k size h)
  | no h ↦ none (no_book k size h)
]

-- a counted book that is sound is what was kept of it
module _ (k : List ℕ) (size : ℕ) (s : Shape) (v : CountedVerdict k size (Ok s)) where
  sound_book_of : (b : List ℕ) → KeptOf b k size → (verdict_of k ≡ Ok s) × Alike b
  sound_book_of b of =
      let e : verdict_of b ≡ Ok s = sym (v.of_book b of) in
      let a : Alike b = alike b (all_sound b s e).whole in
      (ap verdict_of of.first ∙ of_kept (λ c w. w) (λ b c g place. refl) b a ∙ e, a)

  pub counted_sound : verdict_of k ≡ Ok s
  counted_sound = by_book k size (λ b of. (sound_book_of b of).0) (λ none. absurd (no_refusal (sym (v.of_none none))))

  pub counted_read : {A : Type 0} (f : List ℕ → Verdict → A) → ((b c : List ℕ) (g : Fault) (place : ℕ) → f b (refused g place) ≡ f c (refused g place)) →
      (b : List ℕ) → KeptOf b k size → f k (verdict_of k) ≡ f b (verdict_of b)
  counted_read f same b of = rw of.first (of_kept f same b (sound_book_of b of).1)
