-- The law of decimal digits.
use Rattle.std.specs.Prelude.{ℕ, ◌^◌, ◌<◌, decimal}
use Rattle.lines.specs.Numbers.{Writes}

-- what is printed of a number writes it
abbrev pub DecimalsWrite : Type 0
DecimalsWrite = (n : ℕ) → n < 2 ^ 32 → Writes (decimal n) n
