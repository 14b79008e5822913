-- Lines written one after the other. Assumes nothing.
use mathlib.Core.Path.{◌≡◌, refl, sym, ap, ap₂, ◌∙◌}
use mathlib.Core.List.{List, [], ◌∷◌, ◌++◌, append_assoc, append-nil}
use Prim.Native.Nat.{ℕ, zero, suc, ◌+◌, ◌*◌, ◌≤◌, ◌<◌}
use native.Mathlib.Nat.{suc-mul}
use native.Mathlib.Numerals.{add-one}
use native.Mathlib.Decide.{ℕ_discrete}
use native.Mathlib.Omega.{arith}
use lib.ListN.{length, take, drop, length-append, length-drop}
use lib.Seq.{length-take-le, get_or-take, get_or-drop}
use Rattle.paper.specs.declared.Shape.{Shape}
use Rattle.paper.specs.declared.Totals.{Totals}
use Rattle.paper.specs.Listing.{decimal, line, lines, CLASS, total_lines}
use Rattle.margin.specs.Items.{item_of}
use Rattle.listing.specs.Page.{class_in, item_text, item_by, item_in, figure_lines, most}

lines_next : (k : ℕ) (f : ℕ → List ℕ) → lines (k + 1) f ≡ lines k f ++ f k
unfolding lines
lines_next k f = rw add-one

-- no line yet, and the next one
pub no_line : (f : ℕ → List ℕ) (s : List ℕ) → s ≡ s ++ lines 0 f
unfolding lines
no_line f s = sym (append-nil s)

pub next_line : (k : ℕ) (f : ℕ → List ℕ) (s : List ℕ) {p q : List ℕ} → p ≡ s ++ lines k f → q ≡ p ++ f k → q ≡ s ++ lines (k + 1) f
next_line k f s h e = rw (e, h, lines_next k f, append_assoc)

-- a line and those before it are no longer than all lines
up_to : (n k : ℕ) (f : ℕ → List ℕ) → k < n → length (lines k f) + length (f k) ≤ length (lines n f)
unfolding lines
up_to zero k f h = absurd (omega arith)
up_to (suc n) k f h = elim (ℕ_discrete k n) [
  | yes e ↦ rw (e, length-append) (omega arith)
  | no e ↦ rw length-append (omega (arith, up_to n k f (omega arith)))
]

-- so where all lines fit behind a page, the next one does
pub line_fits : (n k : ℕ) (f : ℕ → List ℕ) (s : List ℕ) {p : List ℕ} → k < n → length s + length (lines n f) ≤ most → p ≡ s ++ lines k f → length p + length (f k) ≤ most
line_fits n k f s h room e = omega (arith, ap length e, length-append s (lines k f), up_to n k f h)

-- lines that are the same one by one
pub lines_cong : (n : ℕ) {f g : ℕ → List ℕ} → ((k : ℕ) → k < n → f k ≡ g k) → lines n f ≡ lines n g
unfolding lines
lines_cong zero e = refl
lines_cong (suc n) e = ap₂ ◌++◌ (lines_cong n (λ k h. e k (omega arith))) (e n (omega arith))

-- the points of the classes stand first in the choice, and those of the instruments behind them
module _ (b : List ℕ) (s : Shape) (t : Totals) (choice classes rest : List ℕ) (first : classes ≡ take s.classes choice) (behind : rest ≡ drop s.classes choice)
    (long : s.classes + s.instruments ≤ length choice) where
  class_lines : lines (length classes) (class_in classes) ≡ lines s.classes (class_in choice)
  class_lines = rw (first, length-take-le s.classes choice (omega arith))
      (lines_cong s.classes (λ k h. ap (λ (p : ℕ). line CLASS (decimal k ∷ decimal p ∷ [])) (get_or-take s.classes choice k 0 h)))

  item_lines : lines (length (take s.instruments rest)) (item_by b (take s.instruments rest)) ≡ lines s.instruments (item_in b choice s.classes)
  item_lines = rw (behind, length-take-le s.instruments (drop s.classes choice) (omega (arith, length-drop s.classes choice)))
      (lines_cong s.instruments (λ i h.
      ap (λ (p : ℕ). item_text i p (item_of b i p))
      (get_or-take s.instruments (drop s.classes choice) i 0 h ∙ get_or-drop s.classes choice i 0)))

  pub figures_by_part : figure_lines b s t choice ≡
      total_lines t ++ (lines (length classes) (class_in classes) ++ lines (length (take s.instruments rest)) (item_by b (take s.instruments rest)))
  figures_by_part = rw (class_lines, item_lines)

-- three texts behind a page fit where they fit together, and then all of them stand there
module _ (page s t u : List ℕ) {whole : List ℕ} (is : whole ≡ s ++ (t ++ u)) (h : length page + length whole ≤ most) where
  parts : length whole ≡ length s + (length t + length u)
  parts = ap length is ∙ length-append s (t ++ u) ∙ ap (λ (n : ℕ). length s + n) (length-append t u)

  module _ {next : List ℕ} (a : next ≡ page ++ s) where
    pub fits_next : length next + length t ≤ most
    fits_next = omega (arith, parts, ap length a, length-append page s)

    module _ {last : List ℕ} (d : last ≡ next ++ t) where
      pub fits_last : length last + length u ≤ most
      fits_last = omega (arith, parts, ap length a, length-append page s, ap length d, length-append next t)

      pub joined_three : {end : List ℕ} → end ≡ last ++ u → end ≡ page ++ whole
      joined_three e = rw (e, d, a, is) (simp append_assoc)

-- lines of at most w bytes
pub lines_short : (n w : ℕ) (f : ℕ → List ℕ) → ((k : ℕ) → k < n → length (f k) ≤ w) → length (lines n f) ≤ n * w
unfolding lines
lines_short zero w f e = omega arith
lines_short (suc n) w f e = rw length-append (omega (arith, lines_short n w f (λ k h. e k (omega arith)), e n (omega arith), suc-mul n w))
