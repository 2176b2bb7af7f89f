-- Decisions as words: bit j stands for the j-th open meeting.
use Rattle.std.specs.Prelude.{◌≡◌, ℕ, ◌^◌, bit_and, bit_or}

-- Of the meetings decided, a word turns just these.
abbrev pub Agrees : (word decided turned : ℕ) → Type 0
Agrees word decided turned = bit_and word decided ≡ turned

-- a word with one meeting more
abbrev pub with_bit : ℕ → ℕ → ℕ
with_bit word j = bit_or word (2 ^ j)
