-- What is said of a verdict: the record that it is said of is the book's, though only its first records were kept. Assumes nothing.
use Rattle.std.specs.Prelude.{Ok, Err}
use Rattle.paper.specs.Refusals.{Verdict, refused}
use mathlib.Core.Path.{◌≡◌, sym, ap, ◌∙◌}
use mathlib.Core.List.{List, []}
use Prim.Native.Nat.{ℕ, ◌+◌, ◌*◌, ◌<◌}
use native.Mathlib.Decide.{ℕ_discrete}
use native.Mathlib.Omega.{arith}
use borrow.Author.Tests.{lt-ltb}
use lib.ListN.{take, length-take}
use lib.Seq.{get_or-take}
use Rattle.paper.specs.declared.Shape.{Shape}
use Rattle.paper.specs.declared.Fault.{Fault}
use Rattle.paper.specs.declared.Fault.TheVariants.{Length}
use Rattle.paper.specs.Records.{record_bytes, whole_records, kind_of, kind_at}
use Rattle.paper.specs.Refusals.{verdict_of}
use Rattle.paper.specs.Answers.{code_of}
use Rattle.paper.specs.Listing.{kept_bytes}
use Rattle.book.proofs.Verdicts.{refused_out}
use Rattle.words.specs.Words.{refusal_line}
use Rattle.margin.specs.Counted.{CountedVerdict}
use Rattle.margin.proofs.Answers.{same_fault}
use Rattle.margin.proofs.Promises.{no_refusal}
use Rattle.margin.proofs.Counted.{Alike, all_kept, both_refused, alike}
use Rattle.listing.specs.Page.{kind_kept, said, Explained}

-- a record that was kept is of the book's kind
kept_kind : (b : List ℕ) (r : ℕ) → r < whole_records (take kept_bytes b) → kind_kept (take kept_bytes b) r ≡ kind_at b r
kept_kind b r h =
    rw (lt-ltb r (whole_records (take kept_bytes b)) h)
    (ap kind_of (get_or-take kept_bytes b (record_bytes * r + 0) 0 (omega (arith, length-take kept_bytes b))))

-- the record that a refusal is of was kept
kept_place : (b : List ℕ) (f : Fault) (place : ℕ) → (f ≡ Length → ⊥) → verdict_of b ≡ refused f place → place < whole_records (take kept_bytes b)
kept_place b f place other e = by (alike b (refused_out b f place other e).whole)
  where
    by : Alike b → place < whole_records (take kept_bytes b)
    by (all_kept k) = rw k (refused_out b f place other e).within
    by (both_refused g p g-is k) = (refused_out (take kept_bytes b) f place other (k ∙ sym g-is ∙ e)).within

-- so its line is that of the book's record; a faulty length names none
same_line : (b : List ℕ) (f : Fault) (place : ℕ) → verdict_of b ≡ refused f place → refusal_line f place (kind_kept (take kept_bytes b) place) ≡ refusal_line f place (kind_at b place)
same_line b f place e = elim (ℕ_discrete (code_of f) (code_of Length)) [
  | yes h ↦ rw (same_fault f Length h)
  | no h ↦ ap (refusal_line f place) (kept_kind b place (kept_place b f place (λ k. h (ap code_of k)) e))
]

-- what is said of a verdict by the records that were kept
abbrev worded : List ℕ → Verdict → List ℕ
worded kept (Ok s) = []
worded kept (Err r) = refusal_line r.fault r.place (kind_kept kept r.place)

module _ (kept : List ℕ) (size : ℕ) {t : List ℕ} where
  pub nothing_said : (s : Shape) → CountedVerdict kept size (Ok s) → t ≡ [] → Explained kept size t
  nothing_said s v e = record {
    of_book = λ b of. e ∙ ap (said b) (v.of_book b of);
    of_none = λ none. absurd (no_refusal (sym (v.of_none none)));
  }

  pub refusal_said : (f : Fault) (place : ℕ) → CountedVerdict kept size (refused f place) → t ≡ refusal_line f place (kind_kept kept place) → Explained kept size t
  refusal_said f place v e = record {
    of_book = λ b of.
        let l : refusal_line f place (kind_kept kept place) ≡ refusal_line f place (kind_at b place) = rw of.first (same_line b f place (sym (v.of_book b of))) in
        e ∙ l ∙ ap (said b) (v.of_book b of);
    of_none = λ none. e ∙ ap (worded kept) (v.of_none none);
  }
