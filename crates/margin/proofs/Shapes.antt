-- A sound book's sizes are small, of an empty book too. Assumes nothing.
use mathlib.Core.Path.{◌≡◌, refl, ap}
use mathlib.Core.List.{List, [], ◌∷◌}
use Prim.Native.Nat.{ℕ, ◌≤◌}
use native.Mathlib.Decide.{dec_lt}
use native.Mathlib.Omega.{arith}
use lib.ListN.{length}
use Rattle.paper.specs.declared.Shape.{Shape}
use Rattle.paper.specs.Records.{whole_records, le16, class_at, shape_of}
use Rattle.book.proofs.Sound.{SoundBook}

nothing : (b : List ℕ) → length b ≡ 0 → b ≡ []
nothing [] h = refl
nothing (x ∷ b) h = absurd (omega arith)

no_points : (b : List ℕ) (r : ℕ) → length b ≡ 0 → (shape_of b r).points ≡ 0
unfolding shape_of class_at le16
no_points b r h = rw (nothing b h)

pub points_most : (b : List ℕ) (s : Shape) → SoundBook b s → s.points ≤ 201
points_most b s ok = elim (dec_lt 0 s.classes) [
  | yes h ↦ (ok.points h).most
  | no h ↦
      let z : s.classes ≡ 0 = omega arith in
      let e : length b ≡ 0 = omega (arith, ok.bytes, ok.no_class z) in
      omega (arith, ap (λ (t : Shape). t.points) ok.shape, no_points b (whole_records b) e)
]
