-- How long a text may be.
use Rattle.std.specs.Prelude.{ℕ}

-- how many bytes there are
abbrev pub room : ℕ
room = 96
