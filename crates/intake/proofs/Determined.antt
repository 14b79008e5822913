-- Each function's contract allows one result, but where the system has a say in it: of a reader whose bytes are known, two readings that
-- come to its end coincide. Assumes nothing.
use denote.RattleType.{RattleType}
use denote.Param.Laws.{Laws}
use mathlib.Core.Path.{◌≡◌}
use Rattle.std.proofs.Common.{List, ℕ, Option, Some, Ok}
use Rattle.std.specs.declared.io.traits.Read.{Ghosts}
use Rattle.amount.proofs.Outcomes.{OneResult, coincide}
use Rattle.intake.specs.declared.Kept.{Kept}
use Rattle.intake.specs.Input.{Held, ReadTo}
use Rattle.intake.proofs.after.Reads as after-reads
use Rattle.intake.proofs.read.Reads as read-reads
use Rattle.intake.proofs.Reading.{all_came}

after : OneResult after-reads.Post
after κs a x y e f = coincide

same : (old left left' : Option (List ℕ)) (xs bytes bytes' : List ℕ) (whole whole' : ℕ) → old ≡ Some xs → ReadTo old left bytes whole → ReadTo old left' bytes' whole' → (bytes ≡ bytes') × (whole ≡ whole')
same old left left' xs bytes bytes' whole whole' e p q =
    let a : Held xs bytes whole = all_came xs left bytes whole (rw e at p) in
    let b : Held xs bytes' whole' = all_came xs left' bytes' whole' (rw e at q) in
    (coincide a.first b.first, coincide a.counted b.counted)

module _ (T : RattleType) (L : Laws T) (R : Ghosts T.Denot) (d : _) where
  read : (κs : _) (a : _) (x y : _) (e f : _) → read-reads.Post T L R d κs a x e → read-reads.Post T L R d κs a y f →
      (xs : List ℕ) (k k' : Kept) → R.remaining a.0.now ≡ Some xs → x ≡ Ok k → y ≡ Ok k' → (k.bytes.now ≡ k'.bytes.now) × (k.whole ≡ k'.whole)
  read κs a x y e f p q xs k k' known h h' = same _ _ _ xs _ _ _ _ known (rw h at p.0) (rw h' at q.0)
