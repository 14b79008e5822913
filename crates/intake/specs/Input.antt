-- How far an input is read. Which bytes come, and how many, is the system's to say.
use Rattle.std.specs.Prelude.{◌≡◌, ℕ, ◌+◌, ◌≤◌, ◌<◌, cond, eqb, Result, Ok, Err, List, ◌++◌, length, take, Option, None, Some}
use Rattle.std.specs.Io.KnownBytes.{Consumes, Keeps, IsAtEnd}
use Rattle.paper.specs.Listing.{kept_bytes}

-- how many bytes came after one read more, by its answer: an error stays one, and no byte is the end
abbrev pub after : {E : Type 0} → ℕ → Result ℕ E → Result (Option ℕ) E
after whole (Ok n) = Ok (cond (eqb n 0) None (Some (whole + n)))
after whole (Err e) = Err e

-- the bytes that came: the first of them are kept, as many as there is room for, and all are counted
pub record Held (came bytes : List ℕ) (whole : ℕ) : Type 0 where
  pub first : bytes ≡ take kept_bytes came
  pub counted : whole ≡ length came

-- one read more brought these bytes, which stand behind those that were kept as far as there is room
pub record Brought (bs before now : List ℕ) (whole more : ℕ) : Type 0 where
  pub some : 0 < length bs
  pub few : length bs ≤ kept_bytes
  pub first : take more now ≡ take kept_bytes (take whole before ++ bs)
  pub counted : more ≡ whole + length bs

-- one read more, whatever came: what was kept before stays as it is
abbrev pub Next : {E : Type 0} → Option (List ℕ) → Option (List ℕ) → List ℕ → List ℕ → ℕ → Result (Option ℕ) E → Type 0
Next old new before now whole (Ok (Some more)) = (bs : List ℕ) × Consumes old new bs × Brought bs before now whole more
Next old new before now whole (Ok None) = Keeps old new × IsAtEnd new × (take whole now ≡ take whole before)
Next old new before now whole (Err e) = Keeps old new × (take whole now ≡ take whole before)

-- an input was read to its end: some bytes came, and none is left
pub record ReadTo (old new : Option (List ℕ)) (bytes : List ℕ) (whole : ℕ) : Type 0 where
  pub came : List ℕ
  pub consumed : Consumes old new came
  pub at_end : IsAtEnd new
  pub held : Held came bytes whole

-- an input was not read to its end: some bytes may have come all the same, and are kept and counted as at the end
pub record ReadSome (old new : Option (List ℕ)) (bytes : List ℕ) (whole : ℕ) : Type 0 where
  pub came : List ℕ
  pub consumed : Consumes old new came
  pub held : Held came bytes whole
