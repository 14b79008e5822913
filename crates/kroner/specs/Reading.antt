-- What a text reads as: an optional "-", digits, a point and two digits, of an amount that an i64 holds.
use Rattle.std.specs.Prelude.{cond, ◌&&◌, List, [], ◌∷◌, ℕ, ◌+◌, ◌-◌, ◌*◌, ◌^◌, eqb, leb, ltb, ℤ, pos, neg_ℤ, length, get_or, take, drop, Option, Some, None, option_and_then}

-- the size of the lowest i64; a number past it is the size of none
abbrev pub most : ℕ
most = 2 ^ 63

-- a "-" takes one byte
abbrev pub sign_bytes : List ℕ → ℕ
sign_bytes s = cond (eqb (get_or s 0 0) 45) 1 0

-- n with the digit c after it, where c is one and the number is not too large
abbrev pub further : ℕ → ℕ → Option ℕ
further n c = cond (leb 48 c && leb c 57 && leb (10 * n + (c - 48)) most) (Some (10 * n + (c - 48))) None

-- the number that digits write after those of n
unfoldable pub number_from : ℕ → List ℕ → Option ℕ
number_from n [] = Some n
number_from n (c ∷ cs) = option_and_then (λ m. number_from m cs) (further n c)

-- the size that a text without its sign writes: digits, a point and two digits
unfoldable pub size_of : List ℕ → Option ℕ
size_of s =
    let n = length s in
    cond (leb 4 n && eqb (get_or s (n - 3) 0) 46)
    (option_and_then (λ whole. number_from whole (drop (n - 2) s)) (number_from 0 (take (n - 3) s)))
    None

-- a size with its sign, where an i64 holds it
abbrev pub signed : ℕ → ℕ → Option ℤ
signed size sign =
    cond (eqb sign 0)
    (cond (ltb size most) (Some (pos size)) None)
    (cond (leb size most) (Some (neg_ℤ (pos size))) None)

unfoldable pub read_of : List ℕ → Option ℤ
read_of s = option_and_then (λ size. signed size (sign_bytes s)) (size_of (drop (sign_bytes s) s))
