-- "For a bought or sold net of one contract" the naked margin in closed form: the lowest amount stands at an end of the
-- scale, where the whole of Par and Adj is lost. Assumes nothing.
use mathlib.Core.Path.{◌≡◌, sym, ap, ap₂, ◌∙◌}
use mathlib.Core.Logic.{◌⊎◌, ⊎_elim}
use mathlib.Core.Bool.{Bool, true, false, not}
use Prim.Native.Nat.{ℕ, ◌-◌, ◌*◌, ◌≤◌, ◌<◌}
use native.Mathlib.Nat.{mul-pos}
use native.Mathlib.Omega.{arith}
use lib.IntN.{ℤ, pos, negsuc, neg_ℤ, nat_abs, ◌+ℤ◌, ◌-ℤ◌, ◌*ℤ◌, *ℤ_comm, +ℤ_idl, neg_ℤ-+ℤ}
use lib.Signed.{◌≤ℤ◌, non_neg}
use Rattle.paper.specs.declared.Instrument.{Instrument}
use Rattle.paper.specs.declared.Holding.{Holding}
use Rattle.paper.specs.Sums.{lowest}
use Rattle.paper.specs.Rounding.{nearest}
use Rattle.paper.specs.Refusals.{instrument_fits}
use Rattle.paper.specs.Products.{shift, amount_at, naked_of, naked_of_one}
use Rattle.amount.proofs.Ints.{ints, plus, neg}
use Rattle.amount.proofs.Worst.{Lowest, lowest_only, lowest_cong}
use Rattle.vector.specs.Parts.{one_at}
use Rattle.vector.proofs.Signs.{size_below, times_mono, times_plus, times_neg, times_minus, times_swap, times_one}
use Rattle.vector.proofs.Rounding.{nearest_neg, nearest_mono, nearest_scale}
use Rattle.vector.proofs.Ranges.{UpTo, Fit, fra, future, bond, fit}
use Rattle.vector.proofs.Bounds.{tilt, rounded, tilt_size, edge, amount_is, future_is, bond_is}

-- the end of the scale where a side loses most
abbrev end : Bool → ℕ → ℕ
end true m = 0
end false m = m

end_on : (up : Bool) (m : ℕ) → end up m ≤ m
end_on true m = omega arith
end_on false m = omega arith

module _ (x : Instrument) (m : ℕ) where
  loss : ℤ
  loss = (x.par +ℤ x.adj) *ℤ pos m

  -- at its end a side loses the whole of Par and Adj
  tilt_end : (up : Bool) → tilt x m up (end up m) ≡ neg_ℤ loss
  unfolding loss
  tilt_end true =
      let p : ℤ = x.par *ℤ pos m in
      let a : ℤ = x.adj *ℤ pos m in
      let s : shift x m 0 ≡ neg_ℤ p = ap (λ z. x.par *ℤ z) (+ℤ_idl (neg_ℤ (pos m))) ∙ times_minus x.par m in
      rw (s, times_plus x.par x.adj m) (sym (neg_ℤ-+ℤ p a))
  tilt_end false =
      let p : ℤ = x.par *ℤ pos m in
      let a : ℤ = x.adj *ℤ pos m in
      let e : (pos (2 * m) -ℤ pos m) ≡ pos m = omega (ints, plus (pos (2 * m)) (neg_ℤ (pos m)), neg (pos m)) in
      rw (e, times_plus x.par x.adj m) (sym (neg_ℤ-+ℤ p a))

  -- and nowhere more
  tilt_low : {P A : ℕ} (up : Bool) (i : ℕ) → UpTo P x.par → UpTo A x.adj → i ≤ m → neg_ℤ loss ≤ℤ tilt x m up i
  unfolding loss
  tilt_low up i p a h =
      rw (ap₂ ◌+ℤ◌ p.is a.is) (size_below (tilt x m up i) (edge x * m) (tilt_size x m up i h))

  module _ {P A : ℕ} (p : UpTo P x.par) (a : UpTo A x.adj) (g : 0 < m) (up : Bool) (k d : ℕ) (h : 0 < d) where
    rounded_end : rounded x k d m up (end up m) ≡ neg_ℤ (nearest ((x.par +ℤ x.adj) *ℤ pos k) d)
    unfolding loss
    rounded_end =
        let e : ℤ = x.par +ℤ x.adj in
        rw (tilt_end up, times_neg (e *ℤ pos m) k, nearest_neg (e *ℤ pos m *ℤ pos k) (d * m), times_swap e m k)
        (ap neg_ℤ (nearest_scale (e *ℤ pos k) d m g))

    rounded_low : (i : ℕ) → i ≤ m → rounded x k d m up (end up m) ≤ℤ rounded x k d m up i
    rounded_low i t =
        nearest_mono (tilt x m up (end up m) *ℤ pos k) (tilt x m up i *ℤ pos k) (d * m) (mul-pos h g)
        (rw (tilt_end up) (times_mono (neg_ℤ loss) (tilt x m up i) k (tilt_low up i p a t)))

    -- so there stands the lowest amount, of c contracts as of one
    rounded_lowest :
        (c : ℕ) →
        Lowest (λ i. rounded x k d m up i *ℤ pos c) 0 m (neg_ℤ (nearest ((x.par +ℤ x.adj) *ℤ pos k) d) *ℤ pos c)
    rounded_lowest c = record {
      below = λ i f t.
          rw (← rounded_end) (times_mono (rounded x k d m up (end up m)) (rounded x k d m up i) c (rounded_low i (omega arith)));
      at = end up m;
      from = omega arith;
      to = omega (arith, end_on up m);
      is = ap (λ z. z *ℤ pos c) rounded_end;
    }

    lowest_rounded :
        (c : ℕ) (v : ℕ → ℤ) → ((i : ℕ) → v i ≡ rounded x k d m up i *ℤ pos c) →
        lowest v 0 m ≡ neg_ℤ (nearest ((x.par +ℤ x.adj) *ℤ pos k) d) *ℤ pos c
    lowest_rounded c v e = lowest_cong 0 m (λ i f t. e i) ∙ sym (lowest_only (rounded_lowest c))

module _ (x : Instrument) (points : ℕ) (held : Holding) (g : 2 ≤ points) (n : nat_abs held.net ≡ 1) where
  single : (i : ℕ) → amount_at x points held i ≡ one_at x (points - 1) (non_neg held.net) i
  single i = amount_is x points held i ∙ rw n (times_one (one_at x (points - 1) (non_neg held.net) i))

  naked_fit : Fit x → naked_of x points held ≡ naked_of_one x
  unfolding naked_of naked_of_one
  naked_fit (fra e r) =
      let m = points - 1 in
      let buys = non_neg held.net in
      lowest_rounded x m r.par r.adj (omega arith) buys x.days 360 (omega arith) 1 (amount_at x points held)
      (λ i. single i ∙ rw e (sym (times_one (rounded x x.days 360 m buys i))))
      ∙ rw e (times_one (neg_ℤ (nearest ((x.par +ℤ x.adj) *ℤ pos x.days) 360)))
  naked_fit (future e r) =
      let m = points - 1 in
      let buys = non_neg held.net in
      let edge = x.par +ℤ x.adj in
      lowest_rounded x m r.par r.adj (omega arith) (not buys) 1 100 (omega arith) 25 (amount_at x points held)
      (λ i. single i ∙ rw e (future_is x m buys i))
      ∙ rw (e, times_one edge) (times_neg (nearest edge 100) 25)
  naked_fit (bond e r) =
      let m = points - 1 in
      let buys = non_neg held.net in
      let edge = x.par +ℤ x.adj in
      let k = nat_abs x.today in
      let f : x.today *ℤ edge ≡ edge *ℤ pos k = *ℤ_comm x.today edge ∙ ap (λ z. edge *ℤ z) r.today.is in
      lowest_rounded x m r.par r.adj (omega arith) buys k 1000000 (omega arith) 1 (amount_at x points held)
      (λ i. single i ∙ rw e (bond_is x m buys i r.today ∙ sym (times_one (rounded x k 1000000 m buys i))))
      ∙ rw (e, f) (times_one (neg_ℤ (nearest (edge *ℤ pos k) 1000000)))

-- bought or sold
pub naked_of_one_lem :
    (x : Instrument) (points : ℕ) (held : Holding) → instrument_fits x ≡ true → 2 ≤ points →
    (held.net ≡ pos 1) ⊎ (held.net ≡ negsuc 0) → naked_of x points held ≡ naked_of_one x
naked_of_one_lem x points held f g n = naked_fit x points held g (⊎_elim (ap nat_abs) (ap nat_abs) n) (fit x f)
