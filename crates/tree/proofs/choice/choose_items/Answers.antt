use Rattle.std.specs.Prelude.{Ok}
use Rattle.std.proofs.Common.{◌≡◌, ◌∙◌, ap, sym, List, ℕ, ◌++◌, ◌-◌, ◌<◌, ◌≤◌, length, take, drop, length-drop, take-append-drop, arith}
use lib.ListN.{get_or-append}
use lib.Seq.{length-take-le, get_or-take}
use Rattle.paper.specs.declared.Shape.{Shape}
use Rattle.paper.specs.Sums.{listed}
use Rattle.paper.specs.Refusals.{verdict_of}
use Rattle.paper.specs.Trees.{class_choice, item_choice}
use Rattle.paper.specs.Answers.{class_point, walk_of}
use Rattle.vector.proofs.Listed.{begun_set}
use Rattle.tree.specs.Buffers.{ChosenClasses}
use Rattle.tree.proofs.Book.{valid}
use Rattle.tree.proofs.Theorem.{choice_on_lem}
use Rattle.tree.proofs.Read.{set_past}
use Rattle.tree.proofs.choice.choose_items.Goals as goal

-- the classes' points stand as they were
home_point :
    (b : List ℕ) (s : Shape) (start choice rest : List ℕ) (i : ℕ) → verdict_of b ≡ Ok s → s.classes ≤ length start →
    ChosenClasses (walk_of b s) start → choice ≡ take s.classes start ++ rest → i < s.instruments →
    (let w = walk_of b s in class_point choice (w.tree.home i) ≡ class_choice w.tree w.row (w.tree.home i))
home_point b s start choice rest i sound room held e g =
    let n = s.classes in
    let home = (walk_of b s).tree.home i in
    let h = (valid b s sound).housed i g in
    let l = length-take-le n start room in
    rw e (get_or-append (take n start) _ 0 home (omega arith) ∙ get_or-take n start home 0 h ∙ held home h)

pub loop-i-init : goal.loop-i-init
unfolding listed
loop-i-init c = sym (take-append-drop c.args.book.now.shape.classes c.args.choice.now)

pub item_point-requires : goal.item_point-requires
item_point-requires c =
    let b = c.args.book.now in
    let l = c.loop-i in
    let w = walk_of b.bytes.now b.shape in
    let ok = valid _ _ b.sound in
    let h = ok.housed l.i (omega arith) in
    let e = home_point b.bytes.now b.shape c.args.choice.now l.choice _ l.i b.sound (omega arith) c.requires.1 l.invariant (omega arith) in
    (omega arith, rw (c.home_of.ensures.home, e) (choice_on_lem w.tree ok (w.tree.home l.i) h))

pub loop-i-preserved : goal.loop-i-preserved
unfolding item_choice
loop-i-preserved c =
    let b = c.args.book.now in
    let l = c.loop-i in
    let w = walk_of b.bytes.now b.shape in
    let n = b.shape.classes in
    let start = c.args.choice.now in
    let back = drop n start in
    let long : length back ≡ length start - n = length-drop n start in
    let h : l.i < length back = omega arith in
    let e = home_point b.bytes.now b.shape start l.choice _ l.i b.sound (omega arith) c.requires.1 l.invariant (omega arith) in
    rw (c.item_point.ensures, c.home_of.ensures.home, e, l.invariant)
    (set_past (take n start) _ n l.i _ (length-take-le n start (omega arith))
    ∙ ap (λ (xs : List ℕ). take n start ++ xs) (begun_set l.i (item_choice w.tree w.row) back 0 h))
