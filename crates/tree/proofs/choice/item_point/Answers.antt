use Rattle.std.proofs.Common.{◌≡◌, ◌∙◌, List, ℕ, ℤ, ◌++◌, ◌<◌, length, take, arith}
use Rattle.paper.specs.Sums.{listed}
use Rattle.paper.specs.Windows.{chosen_near}
use Rattle.paper.specs.Answers.{walk_of}
use Rattle.window.specs.Slides.{entry_of}
use Rattle.amount.proofs.Lists.{listed_length}
use Rattle.window.proofs.Near.{chosen_is}
use Rattle.vector.proofs.Book.{points_of}
use Rattle.tree.proofs.Buffers.{first_listed}
use Rattle.tree.proofs.Read.{chosen_listed}
use Rattle.tree.proofs.choice.item_point.Goals as goal

pub chosen_near-requires : goal.chosen_near-requires
chosen_near-requires c =
    let b = c.args.book.now in
    let t = (walk_of b.bytes.now b.shape).tree in
    let filled = rw (c.of.ensures.points, c.of.ensures.instrument, c.of.ensures.held) at c.fill.ensures in
    rw (first_listed t.points (t.amount c.args.i) c.fill.new.work _ filled, listed_length t.points (t.amount c.args.i)) c.requires.1

-- the point chosen in the working array, which holds the values v, is that of v
chosen :
    (p : ℕ) (v : ℕ → ℤ) (work rest : List ℤ) (r x : ℕ) → x < p → work ≡ listed p v ++ rest →
    chosen_near (length (take p work)) (entry_of (take p work)) r x ≡ chosen_near p v r x
chosen p v work rest r x h e =
    rw (first_listed p v work rest e) (chosen_listed p v r x h)

pub overflow_cast-result : goal.overflow_cast-result
overflow_cast-result c =
    let b = c.args.book.now in
    let t = (walk_of b.bytes.now b.shape).tree in
    let home = t.home c.args.i in
    let filled = rw (c.of.ensures.points, c.of.ensures.instrument, c.of.ensures.held) at c.fill.ensures in
    let e : c.chosen_near.result ≡ chosen_near t.points (t.amount c.args.i) (t.reach home) c.args.middle =
    c.chosen_near.ensures
    ∙ rw (c.reach_of-reach.ensures, c.home_of.ensures.home)
    (chosen t.points (t.amount c.args.i) c.fill.new.work _ (t.reach home) c.args.middle c.requires.1 filled) in
    omega (
      arith,
      e,
      (points_of _ _ b.sound c.args.i c.requires.0).most,
      (chosen_is t.points (t.amount c.args.i) (t.reach home) c.args.middle c.requires.1).on,
    )

pub returns : goal.returns
returns c =
    let b = c.args.book.now in
    let t = (walk_of b.bytes.now b.shape).tree in
    let home = t.home c.args.i in
    let filled = rw (c.of.ensures.points, c.of.ensures.instrument, c.of.ensures.held) at c.fill.ensures in
    c.chosen_near.ensures
    ∙ rw (c.reach_of-reach.ensures, c.home_of.ensures.home)
    (chosen t.points (t.amount c.args.i) c.fill.new.work _ (t.reach home) c.args.middle c.requires.1 filled)
