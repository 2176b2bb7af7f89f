-- Words that name shuttles: bit s stands for shuttle s.
use Rattle.std.specs.Prelude.{ℕ, zero, suc, ◌+◌, ◌/◌, ◌%◌, ◌^◌, Bool, cond, ◌==◌}

abbrev pub bit : ℕ → ℕ → Bool
bit word s = word / 2 ^ s % 2 == 1

-- the word that names just those of the first n shuttles that are named
abbrev pub word_of : (ℕ → Bool) → ℕ → ℕ
word_of named zero = 0
word_of named (suc n) = word_of named n + cond (named n) (2 ^ n) 0
