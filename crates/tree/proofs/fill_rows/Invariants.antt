use Rattle.std.proofs.Common.{◌≡◌, ℕ, ◌*◌, ◌≤◌, ◌<◌, drop}
use Rattle.paper.specs.Trees.{row_of}
use Rattle.paper.specs.Answers.{walk_of}
use Rattle.tree.specs.Buffers.{rows_in}
use Rattle.tree.proofs.fill_rows.Given as goal

-- the rows from k on are the tree's, and what is past all rows is as it was
abbrev pub invariant-loop-k : goal.invariant-loop-k
invariant-loop-k l =
    let s = l.book.shape in
    record {
      rest : drop (s.classes * s.points) l.rows ≡ drop (s.classes * s.points) l.initial.rows;
      done : (c x : ℕ) → l.k ≤ c → c < s.classes → x < s.points → rows_in s.points l.rows c x ≡ row_of (walk_of l.book.bytes.now s).tree c x;
    }
