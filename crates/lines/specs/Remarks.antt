-- A line of words with a number in it.
use Rattle.std.specs.Prelude.{List, [], ◌∷◌, ◌++◌, ℕ}
use Rattle.paper.specs.Listing.{decimal}

-- what stands before the number, what after it, and what is said
abbrev pub remark : List ℕ → ℕ → List ℕ → List ℕ → List ℕ
remark front n middle said = front ++ (decimal n ++ (middle ++ (said ++ (10 ∷ []))))
