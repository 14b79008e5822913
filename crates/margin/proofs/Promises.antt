-- From a verdict and the figures to the three promises. Assumes nothing.
use Rattle.std.specs.Prelude.{Ok, Err}
use Rattle.paper.specs.Refusals.{Verdict, refused}
use mathlib.Core.Path.{◌≡◌, refl, sym, ap, ◌∙◌}
use mathlib.Core.List.{List, ◌++◌}
use Prim.Native.Nat.{ℕ, ◌+◌, ◌*◌, ◌≤◌, ◌<◌}
use native.Mathlib.Decide.{dec_lt}
use native.Mathlib.Omega.{arith}
use borrow.Author.Tests.{lt-ltb, le-ltb}
use lib.IntN.{ℤ}
use lib.ListN.{length, drop, get_or-append}
use Rattle.paper.specs.declared.Shape.{Shape}
use Rattle.paper.specs.declared.Totals.{Totals}
use Rattle.paper.specs.declared.Fault.{Fault}
use Rattle.paper.specs.Sums.{listed}
use Rattle.paper.specs.Records.{whole_records}
use Rattle.paper.specs.Refusals.{verdict_of, verdict_on, with_room}
use Rattle.paper.specs.Trees.{Tree, total_of, LowestTotal, row_of, cross_of, class_choice, item_choice}
use Rattle.paper.specs.Answers.{Walk, walk_of, code_of, no_totals, code_given, place_given, totals_given, rows_on, rows_after, choice_on, choice_after, choice_for, class_point, item_point}
use Rattle.amount.proofs.Sums.{sum_cong}
use Rattle.amount.proofs.Lists.{listed_length, listed_at}
use Rattle.tree.proofs.Rows.{Valid}
use Rattle.tree.proofs.Theorem.{lowest_total}
use Rattle.tree.proofs.Buffers.{get_d_past}
use Rattle.tree.proofs.Book.{valid}
use Rattle.margin.specs.Run.{Figured, Ran}

-- what acceptance says of a book and of the lengths of the buffers
pub record Admitted (b : List ℕ) (rows choice : ℕ) (s : Shape) : Type 0 where
  pub sound : verdict_of b ≡ Ok s
  pub rows_fit : s.classes * s.points ≤ rows
  pub choice_fits : s.classes + s.instruments ≤ choice

pub no_refusal : {f : Fault} {place : ℕ} {s : Shape} → refused f place ≡ Ok s → ⊥
no_refusal {f} {place} {s} e = let z : ◌≡◌ {A = ℕ} 0 1 = cc in omega arith

pub room : (b : List ℕ) (rows choice : ℕ) (s : Shape) → verdict_on b rows choice ≡ Ok s → Admitted b rows choice s
unfolding verdict_on
room b rows choice s h = go (verdict_of b) refl h
  where
    go : (v : Verdict) → verdict_of b ≡ v → with_room v (whole_records b) rows choice ≡ Ok s → Admitted b rows choice s
    go (Err r) e k = absurd (no_refusal k)
    go (Ok t) e k = elim (dec_lt rows (t.classes * t.points)) [
      | yes l ↦ absurd (no_refusal (rw (lt-ltb rows (t.classes * t.points) l) at k))
      | no l ↦ elim (dec_lt choice (t.classes + t.instruments)) [
        | yes m ↦ absurd (no_refusal (rw (le-ltb rows (t.classes * t.points) (omega arith), lt-ltb choice (t.classes + t.instruments) m) at k))
        | no m ↦
            let q : Ok t ≡ Ok s = rw (le-ltb rows (t.classes * t.points) (omega arith), le-ltb choice (t.classes + t.instruments) (omega arith)) at k in
            let same : t ≡ s = cc in
            rw (← same) (record { sound = e; rows_fit = omega arith; choice_fits = omega arith })
      ]
    ]

-- a choice that agrees with one at every class and instrument is as good
module _ (t : Tree) (ok : Valid t) (cross : ℤ) (p q p' q' : ℕ → ℕ)
    (same-p : (k : ℕ) → k < t.classes → p' k ≡ p k) (same-q : (i : ℕ) → i < t.instruments → q' i ≡ q i) where
  pub agreed : LowestTotal t cross p q → LowestTotal t cross p' q'
  unfolding total_of
  agreed low = record {
    least = low.least;
    allowed = record {
      class_point = λ k h. rw (same-p k h) (low.allowed.class_point k h);
      class_near = λ k h r. rw (same-p k h, same-p (t.parent k) (omega (arith, ok.before k h r))) (low.allowed.class_near k h r);
      item_point = λ i h. rw (same-q i h) (low.allowed.item_point i h);
      item_near = λ i h. rw (same-q i h, same-p (t.home i) (ok.housed i h)) (low.allowed.item_near i h);
    };
    gives = sum_cong t.instruments (λ i h. ap (t.amount i) (same-q i h)) ∙ low.gives;
  }

-- the choice that stands in the buffer
module _ (w : Walk) (choice : List ℕ) where
  open w.tree use {classes, instruments}

  rest : List ℕ
  rest = listed instruments (item_choice w.tree w.row) ++ drop (classes + instruments) choice

  pub class_read : (k : ℕ) → k < classes → class_point (choice_for w choice) k ≡ class_choice w.tree w.row k
  unfolding choice_for rest
  class_read k h =
      let f = class_choice w.tree w.row in
      get_or-append (listed classes f) rest 0 k (rw (listed_length classes f) h) ∙ listed_at classes k f 0 h

  pub item_read : (i : ℕ) → i < instruments → item_point w.tree (choice_for w choice) i ≡ item_choice w.tree w.row i
  unfolding choice_for rest
  item_read i h =
      let f = item_choice w.tree w.row in
      get_d_past (listed classes (class_choice w.tree w.row)) rest classes i 0 (listed_length classes (class_choice w.tree w.row))
      ∙ get_or-append (listed instruments f) (drop (classes + instruments) choice) 0 i (rw (listed_length instruments f) h)
      ∙ listed_at instruments i f 0 h

pub lowest : (b : List ℕ) (s : Shape) (choice : List ℕ) → verdict_of b ≡ Ok s →
    let t = (walk_of b s).tree in LowestTotal t (cross_of t (row_of t)) (class_point (choice_for (walk_of b s) choice)) (item_point t (choice_for (walk_of b s) choice))
lowest b s choice sound =
    let w = walk_of b s in
    agreed w.tree (valid b s sound) _ _ _ _ _ (class_read w choice) (item_read w choice) (lowest_total w.tree (valid b s sound))

module _ (b : List ℕ) (rows : List ℤ) (choice : List ℕ) where
  pub accepted : (s : Shape) (totals : Totals) (rows' : List ℤ) (choice' : List ℕ) → verdict_on b (length rows) (length choice) ≡ Ok s →
      Figured b s rows choice totals rows' choice' → Ran b rows choice 0 0 totals rows' choice'
  unfolding rows_after choice_after
  accepted s totals rows' choice' e f = record {
    code_is = sym (ap code_given e);
    place_is = sym (ap place_given e);
    totals_are = f.totalled ∙ sym (ap (totals_given b) e);
    rows_hold = f.rows_hold ∙ sym (ap (λ (v : Verdict). rows_on b v rows) e);
    choice_holds = f.choice_holds ∙ sym (ap (λ (v : Verdict). choice_on b v choice) e);
    lowest = λ t k.
        let q : Ok s ≡ Ok t = sym e ∙ k in
        let same : s ≡ t = cc in
        rw (← same, f.choice_holds, f.totalled) (lowest b s choice (room b (length rows) (length choice) s e).sound);
  }

  pub turned_down : (f : Fault) (place : ℕ) → verdict_on b (length rows) (length choice) ≡ refused f place → Ran b rows choice (code_of f) place no_totals rows choice
  unfolding rows_after choice_after
  turned_down f place e = record {
    code_is = sym (ap code_given e);
    place_is = sym (ap place_given e);
    totals_are = sym (ap (totals_given b) e);
    rows_hold = sym (ap (λ (v : Verdict). rows_on b v rows) e);
    choice_holds = sym (ap (λ (v : Verdict). choice_on b v choice) e);
    lowest = λ s k. absurd (no_refusal (sym e ∙ k));
  }
