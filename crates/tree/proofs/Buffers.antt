-- A buffer in which rows stand: one row replaced, and what is left as it was. Assumes nothing.
use mathlib.Core.Path.{◌≡◌, refl, sym, ap, ap₂, ◌∙◌}
use mathlib.Core.Logic.{◌≢◌}
use mathlib.Core.List.{List, [], ◌∷◌, ◌++◌}
use Prim.Native.Nat.{ℕ, zero, suc, ◌+◌, ◌-◌, ◌*◌, ◌≤◌, ◌<◌}
use native.Mathlib.Omega.{arith}
use native.Mathlib.Decide.{dec_lt}
use lib.IntN.{ℤ, pos, ◌+ℤ◌}
use lib.ListN.{length, replicate, length-replicate, get_or-replicate, take, drop, get_or, length-append, length-drop, take-append-drop, get_or-append}
use lib.Seq.{length-take-le, take_at, drop_at, get_or-append-add, drop-append-add, get_or-take, get_or-drop, drop-drop, ext_get_or}
use Rattle.paper.specs.Sums.{listed, lowest}
use Rattle.paper.specs.Windows.{lowest_near}
use Rattle.amount.proofs.Lists.{row_end, listed_length, listed_at}
use Rattle.amount.proofs.Worst.{lowest_cong}
use Rattle.window.specs.Slides.{entry_of, slid_at, slid}
use Rattle.window.proofs.Near.{near_cong}
use Rattle.tree.specs.Buffers.{rows_in, RowWithin, part_of, with_row}

pub listed_cong : {A : Type 0} (n : ℕ) {f g : ℕ → A} → ((k : ℕ) → k < n → f k ≡ g k) → listed n f ≡ listed n g
unfolding listed
listed_cong zero e = refl
listed_cong (suc n) e = ap₂ (λ xs y. xs ++ (y ∷ [])) (listed_cong n (λ k h. e k (omega arith))) (e n (omega arith))

-- one value in each place
pub listed_same : {A : Type 0} (n : ℕ) (d : A) → replicate n d ≡ listed n (λ x. d)
listed_same n d =
    ext_get_or d _ _ (length-replicate n d ∙ sym (listed_length n (λ x. d))) (λ x h.
    let l : x < n = rw (length-replicate n d) at h in
    get_or-replicate n x d d l ∙ sym (listed_at n x (λ x. d) d l))

-- the first entries of a working array that holds a function's values there
pub first_listed : (p : ℕ) (f : ℕ → ℤ) (work rest : List ℤ) → work ≡ listed p f ++ rest → take p work ≡ listed p f
first_listed p f work rest e = rw e (take_at (listed p f) rest p (listed_length p f))

-- the lowest entry within reach, in the list of a function's values
pub near_listed : (p : ℕ) (f : ℕ → ℤ) (r x : ℕ) → x < p → lowest_near p (entry_of (listed p f)) r x ≡ lowest_near p f r x
near_listed p f r x h = near_cong p r x h (λ y l. listed_at p y f (pos 0) l)

-- the lowest entry of a whole list of them
pub lowest_listed : (p : ℕ) (f : ℕ → ℤ) → 0 < p → lowest (entry_of (listed p f)) 0 (length (listed p f) - 1) ≡ lowest f 0 (p - 1)
lowest_listed p f h = rw (listed_length p f) (lowest_cong 0 (p - 1) (λ y a b. listed_at p y f (pos 0) (omega arith)))

pub row_within : (p n k : ℕ) (rows : List ℤ) → n * p ≤ length rows → k < n → RowWithin p rows k
row_within p n k rows h l = omega (arith, row_end k n p l)

-- past a list of n entries
pub get_d_past : {A : Type 0} (xs ys : List A) (n k : ℕ) (d : A) → length xs ≡ n → get_or (xs ++ ys) (n + k) d ≡ get_or ys k d
get_d_past xs ys n k d e = rw (← e) (get_or-append-add xs ys k d)

pub drop_past : {A : Type 0} (xs ys : List A) (n k : ℕ) → length xs ≡ n → drop (n + k) (xs ++ ys) ≡ drop k ys
drop_past xs ys n k e = rw (← e) (drop-append-add xs ys k)

pub part_length : (from p : ℕ) (rows : List ℤ) → from + p ≤ length rows → length (part_of from p rows) ≡ p
part_length from p rows h = let l : length (drop from rows) ≡ length rows - from = length-drop from rows in length-take-le p (drop from rows) (omega arith)

pub part_at : (from p : ℕ) (rows : List ℤ) (x : ℕ) → x < p → get_or (part_of from p rows) x (pos 0) ≡ get_or rows (from + x) (pos 0)
part_at from p rows x h = get_or-take p (drop from rows) x (pos 0) h ∙ get_or-drop from rows x (pos 0)

-- a part as the list of its entries
pub part_is : (from p : ℕ) (rows : List ℤ) → from + p ≤ length rows → part_of from p rows ≡ listed p (λ x. get_or rows (from + x) (pos 0))
part_is from p rows h =
    let f : ℕ → ℤ = λ x. get_or rows (from + x) (pos 0) in
    let l = part_length from p rows h in
    ext_get_or (pos 0) _ _ (l ∙ sym (listed_length p f)) (λ x g. part_at from p rows x (omega arith) ∙ sym (listed_at p x f (pos 0) (omega arith)))

-- a vector slid over a part
pub slid_part :
    (from p : ℕ) (rows v : List ℤ) (r : ℕ) → from + p ≤ length rows → length v ≡ p →
    slid (part_of from p rows) v r ≡ listed p (λ x. get_or rows (from + x) (pos 0) +ℤ lowest_near p (entry_of v) r x)
unfolding slid
slid_part from p rows v r h e =
    ap (λ n. listed n (slid_at (part_of from p rows) v r)) (part_length from p rows h)
    ∙ listed_cong p (λ x g. rw (part_at from p rows x g, e))

module _ (p : ℕ) (rows : List ℤ) (k : ℕ) (h : RowWithin p rows k) where
  front : length (take (k * p) rows) ≡ k * p
  front = length-take-le (k * p) rows (omega arith)

  pub with_cong : {f g : ℕ → ℤ} → ((x : ℕ) → x < p → f x ≡ g x) → with_row p rows k f ≡ with_row p rows k g
  unfolding with_row
  with_cong e = rw (listed_cong p e)

  -- its own entries in row k
  pub with_same : with_row p rows k (rows_in p rows k) ≡ rows
  unfolding with_row
  with_same =
      rw (← part_is (k * p) p rows h, take-append-drop p (drop (k * p) rows)) (take-append-drop (k * p) rows)

  pub with_none : {f : ℕ → ℤ} → ((x : ℕ) → x < p → f x ≡ rows_in p rows k x) → with_row p rows k f ≡ rows
  with_none e = with_cong e ∙ with_same

  module _ (f : ℕ → ℤ) where
    pub with_length : length (with_row p rows k f) ≡ length rows
    unfolding with_row
    with_length = simp (length-append, front, listed_length, length-drop) (omega arith)

    -- row k
    pub with_at : (x : ℕ) → x < p → rows_in p (with_row p rows k f) k x ≡ f x
    unfolding with_row
    with_at x l =
        get_d_past (take (k * p) rows) _ (k * p) x (pos 0) front
        ∙ get_or-append (listed p f) _ (pos 0) x (rw (listed_length p f) l)
        ∙ listed_at p x f (pos 0) l

    -- the other rows, and what is past the row
    pub with_kept : (c x : ℕ) → c ≢ k → x < p → rows_in p (with_row p rows k f) c x ≡ rows_in p rows c x
    unfolding with_row
    with_kept c x n l = elim (dec_lt c k) [
      | yes b ↦
          let e = row_end c k p b in
          get_or-append (take (k * p) rows) _ (pos 0) (c * p + x) (rw front (omega arith))
          ∙ get_or-take (k * p) rows (c * p + x) (pos 0) (omega arith)
      | no b ↦
          let e = row_end k c p (omega arith) in
          let y = c * p + x - (k * p + p) in
          let s : c * p + x ≡ k * p + (p + y) = omega arith in
          rw s
          (get_d_past (take (k * p) rows) _ (k * p) (p + y) (pos 0) front
          ∙ get_d_past (listed p f) _ p y (pos 0) (listed_length p f)
          ∙ get_or-drop p (drop (k * p) rows) y (pos 0)
          ∙ get_or-drop (k * p) rows (p + y) (pos 0))
    ]

    pub with_rest : (n : ℕ) → k * p + p ≤ n → drop n (with_row p rows k f) ≡ drop n rows
    unfolding with_row
    with_rest n l =
        let y = n - (k * p + p) in
        let s : n ≡ k * p + (p + y) = omega arith in
        rw s
        (drop_past (take (k * p) rows) _ (k * p) (p + y) front
        ∙ drop_past (listed p f) _ p y (listed_length p f)
        ∙ drop-drop y p (drop (k * p) rows)
        ∙ drop-drop (p + y) (k * p) rows)

    -- another row in its place
    pub with_with : (g : ℕ → ℤ) → with_row p (with_row p rows k f) k g ≡ with_row p rows k g
    unfolding with_row
    with_with g =
        rw (
          take_at (take (k * p) rows) (listed p f ++ drop p (drop (k * p) rows)) (k * p) front,
          drop_at (take (k * p) rows) (listed p f ++ drop p (drop (k * p) rows)) (k * p) front,
          drop_at (listed p f) (drop p (drop (k * p) rows)) p (listed_length p f),
        )
