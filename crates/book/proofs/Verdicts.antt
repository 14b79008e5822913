-- The verdict, record by record: what a sound book says of each record, and which verdict is given exactly when. Assumes nothing.
use Rattle.std.specs.Prelude.{Ok, Err}
use Rattle.paper.specs.Refusals.{Finding, Verdict, refused}
use mathlib.Core.Path.{◌≡◌, refl, sym, ap}
use mathlib.Core.Bool.{Bool, true, false, cond}
use mathlib.Core.List.{List, [], ◌∷◌}
use Prim.Native.Nat.{ℕ, zero, suc, ◌+◌, ◌-◌, ◌*◌, ◌%◌, ◌≤◌, ◌<◌}
use native.Mathlib.Decide.{ℕ_discrete}
use native.Mathlib.Nat.{add-zero}
use native.Mathlib.Omega.{arith}
use borrow.Author.Tests.{ltb-true, eqb-true, not-false}
use lib.Dec.{T, leb, leb→le}
use lib.ListN.{length}
use Rattle.paper.specs.declared.Shape.{Shape}
use Rattle.paper.specs.declared.Fault.{Fault}
use Rattle.paper.specs.declared.Fault.TheVariants.{Length}
use Rattle.paper.specs.declared.Refusal.{Refusal}
use Rattle.paper.specs.Records.{kind_at, position_at, whole_records, shape_of}
use Rattle.paper.specs.Refusals.{Test, length_fault, letter_fault, order_fault, limit_fault, reserved_fault, reference_fault, range_fault, points_fault, tests, first_given, finding_at, or_else, verdict_from, verdict_of}
use Rattle.paper.specs.Answers.{code_of}

-- one record more
pub step : (b : List ℕ) (r n : ℕ) → r < n → verdict_from b r (n - r) ≡ or_else (finding_at b r) r (verdict_from b (r + 1) (n - (r + 1)))
unfolding verdict_from
step b r n h = let e : n - r ≡ suc (n - (r + 1)) = omega arith in rw e

-- ---- one record

-- every test of record r passes, where the records before it are s
pub record Passed (b : List ℕ) (r : ℕ) (s : Shape) : Type 0 where
  pub letter : letter_fault b r ≡ false
  pub order : order_fault b r ≡ false
  pub limit : limit_fault b r s ≡ false
  pub reserved : reserved_fault b r ≡ false
  pub reference : reference_fault b r s ≡ false
  pub range : range_fault b r s ≡ false
  pub points : points_fault b r s ≡ false

-- a test before a clean rest
pub past : (given : Bool) (f : Fault) (later : Finding) → cond given (Err f) later ≡ Ok tt → (given ≡ false) × (later ≡ Ok tt)
past true f later h = absurd (let z : ◌≡◌ {A = ℕ} 0 1 = cc in omega arith)
past false f later h = (refl, h)

pub passed : (b : List ℕ) (r : ℕ) → finding_at b r ≡ Ok tt → Passed b r (shape_of b r)
unfolding finding_at tests first_given
passed b r h =
    let p2 = past _ _ _ h in
    let p3 = past _ _ _ p2.1 in
    let p4 = past _ _ _ p3.1 in
    let p5 = past _ _ _ p4.1 in
    let p6 = past _ _ _ p5.1 in
    let p7 = past _ _ _ p6.1 in
    let p8 = past _ _ _ p7.1 in
    record { letter = p2.0; order = p3.0; limit = p4.0; reserved = p5.0; reference = p6.0; range = p7.0; points = p8.0 }

-- a position whose reference holds names an instrument that stands before it
pub stands : (b : List ℕ) (r : ℕ) (s : Shape) → kind_at b r ≡ 3 → reference_fault b r s ≡ false → (position_at b r).instrument < s.instruments
unfolding reference_fault
stands b r s k h = ltb-true _ _ (not-false _ (rw k at h))

-- the faults that a record can have are those of codes 2 to 8
abbrev Own : Finding → Type 0
Own (Ok none) = Unit {0}
Own (Err f) = T (leb 2 (code_of f)) × T (leb (code_of f) 8)

abbrev EachOwn : List Test → Type 0
EachOwn [] = Unit {0}
EachOwn (t ∷ ts) = Own (Err t.fault) × EachOwn ts

own_or : (given : Bool) (f : Fault) (later : Finding) → Own (Err f) → Own later → Own (cond given (Err f) later)
own_or true f later h k = h
own_or false f later h k = k

first_own : (ts : List Test) → EachOwn ts → Own (first_given ts)
unfolding first_given
first_own [] h = tt
first_own (t ∷ ts) h = own_or t.given t.fault (first_given ts) h.0 (first_own ts h.1)

own : (b : List ℕ) (r : ℕ) → Own (finding_at b r)
unfolding finding_at tests
own b r = first_own (tests b r (shape_of b r)) ((tt, tt), ((tt, tt), ((tt, tt), ((tt, tt), ((tt, tt), ((tt, tt), ((tt, tt), tt)))))))

pub record_fault : (b : List ℕ) (r : ℕ) {f : Fault} → finding_at b r ≡ Err f → (2 ≤ code_of f) × (code_of f ≤ 8)
record_fault b r {f} h =
    let o : Own (Err f) = rw h at (own b r) in
    (leb→le 2 (code_of f) o.0, leb→le (code_of f) 8 o.1)

-- ---- the records from r on

-- each of the records from r up to n is clean
abbrev pub AllClean : List ℕ → ℕ → ℕ → Type 0
AllClean b r n = (k : ℕ) → r ≤ k → k < n → finding_at b k ≡ Ok tt

clean_more : (b : List ℕ) (r n : ℕ) → finding_at b r ≡ Ok tt → AllClean b (r + 1) n → AllClean b r n
clean_more b r n h rest k lo hi = elim (ℕ_discrete k r) [
  | yes e ↦ rw e h
  | no e ↦ rest k (omega arith) hi
]

sound_or : (found : Finding) (r : ℕ) (later : Verdict) (s : Shape) → or_else found r later ≡ Ok s → (found ≡ Ok tt) × (later ≡ Ok s)
sound_or (Ok none) r later s h = (refl, h)
sound_or (Err f) r later s h = absurd (let z : ◌≡◌ {A = ℕ} 0 1 = cc in omega arith)

sound_from : (b : List ℕ) (r n : ℕ) (s : Shape) → verdict_from b r n ≡ Ok s → (s ≡ shape_of b (r + n)) × AllClean b r (r + n)
unfolding verdict_from
sound_from b r zero s h = rw add-zero (cc, λ k lo hi. absurd (omega arith))
sound_from b r (suc n) s h =
    let p = sound_or (finding_at b r) r _ s h in
    let q = sound_from b (r + 1) n s p.1 in
    let e : r + 1 + n ≡ r + suc n = omega arith in
    rw (← e) (q.0, clean_more b r (r + 1 + n) p.0 q.1)

clean_from : (b : List ℕ) (r n : ℕ) → AllClean b r (r + n) → verdict_from b r n ≡ Ok (shape_of b (r + n))
unfolding verdict_from
clean_from b r zero h = rw add-zero
clean_from b r (suc n) h =
    let e : r + 1 + n ≡ r + suc n = omega arith in
    rw (h r (omega arith) (omega arith), ← e) (clean_from b (r + 1) n (λ k lo hi. h k (omega arith) (omega arith)))

-- a refusal is one fault at one place
pub same_refused : (f g : Fault) (p r : ℕ) → refused g p ≡ refused f r → (g ≡ f) × (p ≡ r)
same_refused f g p r h =
    let e : ◌≡◌ {A = Refusal} (record { fault = g; place = p }) (record { fault = f; place = r }) = cc in
    (ap (λ (x : Refusal). x.fault) e, ap (λ (x : Refusal). x.place) e)

-- where a fault is found first, at record r of the n from `at` on
pub record Found (b : List ℕ) (from n : ℕ) (f : Fault) (r : ℕ) : Type 0 where
  pub from_here : from ≤ r
  pub within : r < from + n
  pub clean : AllClean b from r
  pub faulty : finding_at b r ≡ Err f

found_or : (b : List ℕ) (at n : ℕ) (f : Fault) (r : ℕ) (found : Finding) → finding_at b at ≡ found → or_else found at (verdict_from b (at + 1) n) ≡ refused f r → (verdict_from b (at + 1) n ≡ refused f r → Found b (at + 1) n f r) → Found b at (suc n) f r
found_or b at n f r (Ok none) e h later =
    let l = later h in
    record { from_here = omega (arith, l.from_here); within = omega (arith, l.within); clean = clean_more b at r e l.clean; faulty = l.faulty }
found_or b at n f r (Err g) e h later =
    let s = same_refused f g at r h in
    let p : at ≡ r = s.1 in
    let q : g ≡ f = s.0 in
    record { from_here = omega arith; within = omega arith; clean = λ k lo hi. absurd (omega arith); faulty = cc }

found_out : (b : List ℕ) (at n : ℕ) (f : Fault) (r : ℕ) → verdict_from b at n ≡ refused f r → Found b at n f r
unfolding verdict_from
found_out b at zero f r h = absurd (let z : ◌≡◌ {A = ℕ} 0 1 = cc in omega arith)
found_out b at (suc n) f r h = found_or b at n f r (finding_at b at) refl h (found_out b (at + 1) n f r)

found_in : (b : List ℕ) (at n : ℕ) (f : Fault) (r : ℕ) → Found b at n f r → verdict_from b at n ≡ refused f r
unfolding verdict_from
found_in b at zero f r h = absurd (omega (arith, h.from_here, h.within))
found_in b at (suc n) f r h = elim (ℕ_discrete at r) [
  | yes e ↦ rw (e, h.faulty)
  | no e ↦ rw (h.clean at (omega arith) (omega (arith, h.from_here)))
      (found_in b (at + 1) n f r (record {
        from_here = omega (arith, h.from_here);
        within = omega (arith, h.within);
        clean = λ k lo hi. h.clean k (omega arith) hi;
        faulty = h.faulty;
      }))
]

-- ---- the whole book

pub whole_length : (b : List ℕ) → length_fault b ≡ false → length b ≡ 32 * whole_records b
whole_length b h = let e : length b % 32 ≡ 0 = eqb-true _ _ (not-false _ h) in omega arith

-- a sound book is whole, its shape is that of its records, and each of them is clean
pub record AllSound (b : List ℕ) (s : Shape) : Type 0 where
  pub whole : length_fault b ≡ false
  pub shape : s ≡ shape_of b (whole_records b)
  pub clean : AllClean b 0 (whole_records b)

pub all_sound : (b : List ℕ) (s : Shape) → verdict_of b ≡ Ok s → AllSound b s
unfolding verdict_of
all_sound b s h = by (length_fault b) refl h
  where
    by : (fault : Bool) → length_fault b ≡ fault → cond fault (refused Length (whole_records b)) (verdict_from b 0 (whole_records b)) ≡ Ok s → AllSound b s
    by true e k = absurd (let z : ◌≡◌ {A = ℕ} 0 1 = cc in omega arith)
    by false e k =
        let q = sound_from b 0 (whole_records b) s k in
        let z : 0 + whole_records b ≡ whole_records b = omega arith in
        record { whole = e; shape = rw z at q.0; clean = rw z at q.1 }

pub sound_in : (b : List ℕ) (s : Shape) → AllSound b s → verdict_of b ≡ Ok s
unfolding verdict_of
sound_in b s h =
    let z : 0 + whole_records b ≡ whole_records b = omega arith in
    rw (h.whole, h.shape) (rw z at (clean_from b 0 (whole_records b) (rw z h.clean)))

-- a fault of a record is given exactly when the book is whole, and that record's is the first found
pub record FirstFault (b : List ℕ) (f : Fault) (r : ℕ) : Type 0 where
  pub whole : length_fault b ≡ false
  pub within : r < whole_records b
  pub clean : AllClean b 0 r
  pub faulty : finding_at b r ≡ Err f

pub refused_out : (b : List ℕ) (f : Fault) (r : ℕ) → (f ≡ Length → ⊥) → verdict_of b ≡ refused f r → FirstFault b f r
unfolding verdict_of
refused_out b f r other h = by (length_fault b) refl h
  where
    by : (fault : Bool) → length_fault b ≡ fault → cond fault (refused Length (whole_records b)) (verdict_from b 0 (whole_records b)) ≡ refused f r → FirstFault b f r
    by true e k = absurd (other (sym (same_refused _ _ _ _ k).0))
    by false e k =
        let q = found_out b 0 (whole_records b) f r k in
        record { whole = e; within = omega (arith, q.within); clean = q.clean; faulty = q.faulty }

pub refused_in : (b : List ℕ) (f : Fault) (r : ℕ) → FirstFault b f r → verdict_of b ≡ refused f r
unfolding verdict_of
refused_in b f r h =
    rw h.whole
    (found_in b 0 (whole_records b) f r (record { from_here = omega arith; within = omega (arith, h.within); clean = h.clean; faulty = h.faulty }))

-- the length's fault is given exactly when the book is not whole, with the whole records as place
pub length_out : (b : List ℕ) (r : ℕ) → verdict_of b ≡ refused Length r → (length_fault b ≡ true) × (r ≡ whole_records b)
unfolding verdict_of
length_out b r h = by (length_fault b) refl h
  where
    by : (fault : Bool) → length_fault b ≡ fault → cond fault (refused Length (whole_records b)) (verdict_from b 0 (whole_records b)) ≡ refused Length r → (length_fault b ≡ true) × (r ≡ whole_records b)
    by true e k = (e, sym (same_refused _ _ _ _ k).1)
    by false e k =
        let q = found_out b 0 (whole_records b) Length r k in
        absurd (omega (arith, (record_fault b r q.faulty).0))

pub length_in : (b : List ℕ) → length_fault b ≡ true → verdict_of b ≡ refused Length (whole_records b)
unfolding verdict_of
length_in b h = rw h
