use Rattle.std.proofs.Common.{◌≡◌, ℕ, ◌-◌, ◌≤◌, Option, None, Some, List, [], ◌++◌, rules, length, take, drop, sym, ap, ◌∙◌, subst, append_assoc, append-nil, take-append-drop, drop_of_length-le}
use Rattle.std.proofs.lemmas.List.{take_rest}
use Rattle.std.specs.Io.KnownBytes.{Appends, Keeps}
use Rattle.std.proofs.KnownBytes.{Appends-trans}
use Rattle.listing.proofs.hand.Goals.{in-Ok, in-Err+else-ne}
use Rattle.listing.proofs.hand.Goals as goal

-- what was taken, and then what is left, are still all of it once more is taken
moves : (all taken rest : List ℕ) (n : ℕ) → all ≡ taken ++ rest → all ≡ (taken ++ take n rest) ++ take (length rest - n) (drop n rest)
moves all taken rest n e =
    e ∙ ap (λ l. taken ++ l) (sym (take-append-drop n rest)) ∙ sym (append_assoc taken (take n rest) (drop n rest)) ∙ ap (λ l. (taken ++ take n rest) ++ l) (sym (take_rest rest n))

-- a write that fails takes nothing
keeps : (a b c : Option (List ℕ)) (taken : List ℕ) → Appends a b taken → Keeps b c → Appends a c taken
keeps None b c taken p k = tt
keeps (Some xs) None c taken p k = absurd p
keeps (Some xs) (Some ys) None taken p k = absurd k
keeps (Some xs) (Some ys) (Some zs) taken p k = k ∙ p

pub loop-preserved : goal.loop-preserved
loop-preserved g c =
    let (taken, split, appended) = c.loop.invariant in
    let rest = c.loop.rest.now in
    elim c.match-write.branch [
      | in-Ok w ↦ let n = w.in-Ok.n in rw w.rest-is (taken ++ take n rest, moves _ taken rest n split, Appends-trans _ _ _ _ _ appended w.in-Ok.ensures.bytes)
      | in-Err+else-ne w ↦ rw w.rest-is (taken, split, keeps _ _ _ taken appended w.in-Err.ensures.bytes)
    ]

-- all is handed over where nothing is left
all_taken : (all taken rest : List ℕ) → all ≡ taken ++ rest → length rest ≤ 0 → taken ≡ all
all_taken all taken rest split none = let empty : rest ≡ [] = drop_of_length-le rest {i = 0} none in sym (split ∙ ap (λ l. taken ++ l) empty ∙ append-nil taken)

pub returns-then-is_empty : goal.returns-then-is_empty
returns-then-is_empty g c =
    let (taken, split, appended) = c.loop.invariant in
    subst (Appends _ _) (all_taken _ taken c.loop.rest.now split (search rules)) appended
