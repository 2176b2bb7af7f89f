-- The decimal digits of a number, as bytes.
use Rattle.std.specs.Prelude.{ℕ, zero, suc, ◌+◌, ◌/◌, ◌%◌, cond, List, [], ◌∷◌, ◌++◌, nat_lt}

-- at most k of them, the last by the rest of a division by ten
abbrev pub digits_in : ℕ → ℕ → List ℕ
digits_in zero n = []
digits_in (suc k) n = cond (nat_lt n 10) [] (digits_in k (n / 10)) ++ (48 + n % 10) ∷ []

-- a number of 32 bits has at most ten
unfoldable pub digits : ℕ → List ℕ
digits n = digits_in 10 n
