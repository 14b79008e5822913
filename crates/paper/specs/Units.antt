-- "Units": rates and the nominal, in whole numbers.
use Rattle.std.specs.Prelude.{ℕ, ◌/◌}

-- "rates in hundred-millionths, so 3.70 % is 3,700,000": the full rate, 100 %
abbrev pub full_rate : ℕ
full_rate = 100000000

-- "one basis point is 10,000 rate units"
abbrev pub basis_point : ℕ
basis_point = 10000

-- "hundredths of a basis point": 100 rate units, the 100 of product 2's formula
abbrev pub hundredth : ℕ
hundredth = basis_point / 100

-- "The nominal is DKK 1,000,000 throughout", in øre
abbrev pub nominal : ℕ
nominal = 100000000
