-- What one read does to what was read before. Assumes nothing.
use Rattle.std.proofs.Common.{◌≡◌, refl, sym, ap, ◌∙◌, ℕ, ◌+◌, ◌-◌, ◌≤◌, ◌<◌, List, [], ◌∷◌, ◌++◌, length, take, Option, None, Some, Result, Ok, Err, IfOk, suc, zero, append-nil, arith}
use Rattle.std.proofs.Math.Dec.{eqb-suc-zero}
use Rattle.std.proofs.Math.Seq.{take-add, take_at, drop_at}
use Rattle.std.proofs.lemmas.List.{length-append, length-take-le, take-append-le, take_all}
use Rattle.std.proofs.KnownBytes.{Consumes-trans}
use Rattle.std.specs.Io.KnownBytes.{Consumes, Keeps, ReadConsumes}
use borrow.Rule.Slice.PartMut.{put_mid, post_of}
use Rattle.paper.specs.Listing.{kept_bytes}
use Rattle.intake.specs.Input.{after, Held, Brought, Next, ReadTo}

-- what gives no byte keeps them
none_given : (old new : Option (List ℕ)) → Consumes old new [] → Keeps old new
none_given None new c = tt
none_given (Some xs) None c = absurd c
none_given (Some xs) (Some ys) c = sym c

-- a read of which n bytes at most came, where what it did to the buffer is known
module _ {E : Type 0} (old new : Option (List ℕ)) (part before now : List ℕ) (whole : ℕ) (room : 0 < length part) (few : length part ≤ kept_bytes) (same : take whole now ≡ take whole before) (stands : (n : ℕ) → n ≤ length part → take (whole + n) now ≡ take kept_bytes (take whole before ++ take n part)) where
  next_read : (got : Result ℕ E) → IfOk got (λ n. n ≤ length part) → ReadConsumes old new got part → Next old new before now whole (after whole got)
  next_read (Ok zero) w r = (none_given old new r.0, r.1 refl room, same)
  next_read (Ok (suc n)) w r =
      let long : length (take (suc n) part) ≡ suc n = length-take-le (suc n) part w in
      rw (eqb-suc-zero n) (take (suc n) part, r.0, record { some = omega arith; few = omega arith; first = stands (suc n) w; counted = omega arith })
  next_read (Err e) w r = (r, same)

module _ (buffer part : List ℕ) (whole : ℕ) (all : length buffer ≡ kept_bytes) where
  -- into the room that is left
  module _ (left : whole < length buffer) (long : length part ≡ length buffer - whole) where
    before_long : length (take whole buffer) ≡ whole
    before_long = length-take-le whole buffer (omega arith)

    as_it_was : take whole (put_mid whole (length buffer - whole) buffer part) ≡ take whole buffer
    as_it_was = take_at (take whole buffer) _ whole before_long

    behind : (n : ℕ) → n ≤ length part → take (whole + n) (put_mid whole (length buffer - whole) buffer part) ≡ take kept_bytes (take whole buffer ++ take n part)
    behind n w =
        let post = post_of whole (length buffer - whole) buffer in
        let both : length (take whole buffer ++ take n part) ≡ whole + n = length-append (take whole buffer) (take n part) ∙ rw (before_long, length-take-le n part w) in
        take-add whole n (take whole buffer ++ (part ++ post))
        ∙ rw (take_at (take whole buffer) (part ++ post) whole before_long, drop_at (take whole buffer) (part ++ post) whole before_long, take-append-le n part post w)
        (sym (take_all kept_bytes (take whole buffer ++ take n part) (omega arith)))

    pub into_room : {E : Type 0} (old new : Option (List ℕ)) (got : Result ℕ E) → IfOk got (λ n. n ≤ length part) → ReadConsumes old new got part →
        Next old new buffer (put_mid whole (length buffer - whole) buffer part) whole (after whole got)
    into_room old new = next_read old new part buffer _ whole (omega arith) (omega arith) as_it_was behind

  -- past it, into a part that is no larger
  module _ (full : length buffer ≤ whole) (some : 0 < length part) (few : length part ≤ kept_bytes) where
    beyond : (n : ℕ) → n ≤ length part → take (whole + n) buffer ≡ take kept_bytes (take whole buffer ++ take n part)
    beyond n w = rw (take_all (whole + n) buffer (omega arith), take_all whole buffer full) (sym (take_at buffer (take n part) kept_bytes all))

    pub past_it : {E : Type 0} (old new : Option (List ℕ)) (got : Result ℕ E) → IfOk got (λ n. n ≤ length part) → ReadConsumes old new got part → Next old new buffer buffer whole (after whole got)
    past_it old new = next_read old new part buffer buffer whole some few refl beyond

-- of what is kept already no more than there is room for matters
take_kept : (k : ℕ) (xs ys : List ℕ) → take k (take k xs ++ ys) ≡ take k (xs ++ ys)
take_kept zero xs ys = refl
take_kept (suc k) [] ys = refl
take_kept (suc k) (x ∷ xs) ys = ap (λ (l : List ℕ). x ∷ l) (take_kept k xs ys)

-- so far is an input read
pub record SoFar (first left : Option (List ℕ)) (buffer : List ℕ) (whole : ℕ) : Type 0 where
  pub came : List ℕ
  pub consumed : Consumes first left came
  pub held : Held came (take whole buffer) whole

-- and still, after one read more
pub went_on : (first old new : Option (List ℕ)) (before now bs : List ℕ) (whole more : ℕ) → SoFar first old before whole → Consumes old new bs → Brought bs before now whole more → SoFar first new now more
went_on first old new before now bs whole more r given b = record {
  came = r.came ++ bs;
  consumed = Consumes-trans first old new r.came bs r.consumed given;
  held = record {
    first = b.first ∙ ap (λ (l : List ℕ). take kept_bytes (l ++ bs)) r.held.first ∙ take_kept kept_bytes r.came bs;
    counted = b.counted ∙ ap (λ (n : ℕ). n + length bs) r.held.counted ∙ sym (length-append r.came bs);
  };
}

-- a text that was read to its end is what came
pub all_came : (xs : List ℕ) (left : Option (List ℕ)) (bytes : List ℕ) (whole : ℕ) → ReadTo (Some xs) left bytes whole → Held xs bytes whole
all_came xs None bytes whole r = absurd r.consumed
all_came xs (Some ys) bytes whole r =
    let e : r.came ≡ xs = sym (r.consumed ∙ ap (λ (l : List ℕ). r.came ++ l) r.at_end ∙ append-nil r.came) in
    rw e at r.held
