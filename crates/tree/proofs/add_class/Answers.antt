use Rattle.std.specs.Prelude.{true, false, Some}
use Rattle.std.specs.Option.{option_eq}
use Rattle.std.proofs.Common.{◌≡◌, ◌∙◌, sym, ℕ, ◌<◌, arith}
use native.Mathlib.Decide.{ℕ_discrete}
use lib.Dec.{eqb}
use borrow.Author.Tests.{eq-eqb, ne_eqb}
use lib.IntN.{+ℤ_idr}
use Rattle.paper.specs.Records.{root}
use Rattle.paper.specs.Trees.{Tree}
use Rattle.paper.specs.Answers.{walk_of}
use Rattle.book.proofs.Sound.{sound_book}
use Rattle.tree.specs.Buffers.{parent_in}
use Rattle.tree.proofs.Book.{valid}
use Rattle.tree.proofs.Buffers.{row_within, with_none}
use Rattle.tree.proofs.add_class.Goals as goal

-- class k is the parent of class c where its number is the one in the record: no class has a root's
named : (t : Tree) (c k : ℕ) → k < root → option_eq eqb (parent_in t c) (Some k) ≡ eqb (t.parent c) k
named t c k h = elim (ℕ_discrete (t.parent c) root) [
  | yes r ↦ rw (eq-eqb (t.parent c) root r) (sym (ne_eqb (t.parent c) k (λ e. omega arith)))
  | no r ↦ rw (ne_eqb (t.parent c) root r)
]

pub add_row-requires : goal.add_row-requires
add_row-requires c =
    let b = c.args.book.now in
    let t = (walk_of b.bytes.now b.shape).tree in
    let p = (sound_book _ _ b.sound).points (omega arith) in
    let few = (valid _ _ b.sound).few in
    let is = rw c.parent_of.ensures at c.eq.ensures in
    let e : eqb (t.parent c.args.c) c.args.k ≡ true = sym (named t c.args.c c.args.k (omega arith)) ∙ sym is ∙ c.if-eq.true in (
      p.most,
      row_within b.shape.points b.shape.classes c.args.k c.args.rows.now c.requires.2 c.requires.0,
      row_within b.shape.points b.shape.classes c.args.c c.args.rows.now c.requires.2 c.requires.1,
      λ x l. rw c.reach_of-reach.ensures (rw e at (c.requires.3 x l)),
    )

pub returns-else-eq : goal.returns-else-eq
returns-else-eq c =
    let b = c.args.book.now in
    let t = (walk_of b.bytes.now b.shape).tree in
    let few = (valid _ _ b.sound).few in
    let is = rw c.parent_of.ensures at c.eq.ensures in
    let e : eqb (t.parent c.args.c) c.args.k ≡ false = sym (named t c.args.c c.args.k (omega arith)) ∙ sym is ∙ c.if-eq.false in
    let within = row_within b.shape.points b.shape.classes c.args.k c.args.rows.now c.requires.2 c.requires.0 in
    sym (with_none b.shape.points c.args.rows.now c.args.k within (λ x l. rw e (+ℤ_idr _)))
