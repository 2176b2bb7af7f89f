-- The numbers of a line: decimal, with one space before each.
use Rattle.std.specs.Prelude.{◌≡◌, ℕ, suc, ◌+◌, ◌-◌, ◌*◌, ◌^◌, ◌<◌, ◌≤◌, cond, ◌&&◌, Bool, List, [], ◌∷◌, length, take, drop, Some, None, Option, ◌==◌, nat_le, nat_lt}
use Rattle.std.specs.Borrow.{Bor}
use Rattle.std.specs.List.{AllByRecursion}
use Rattle.lines.specs.declared.numbers.TheConstants.{MOST_DIGITS}

-- a digit is one of the bytes 48 to 57
abbrev pub is_digit : ℕ → Bool
is_digit b = nat_le 48 b && nat_le b 57

abbrev pub Digits : List ℕ → Type 0
Digits ds = AllByRecursion (λ d. (48 ≤ d) × (d ≤ 57)) ds

-- what decimal digits are worth, each by its place
abbrev pub worth : List ℕ → ℕ
worth [] = 0
worth (d ∷ ds) = (d - 48) * 10 ^ length ds + worth ds

-- the digits write the number: there are some and not too many, and zeros may stand in front
pub record Writes (ds : List ℕ) (n : ℕ) : Type 0 where
  pub some : 1 ≤ length ds
  pub few : length ds ≤ MOST_DIGITS
  pub all : Digits ds
  pub value : worth ds ≡ n
  pub fits : n < 2 ^ 32

-- how many digits stand in front
abbrev pub count_of_digits : List ℕ → ℕ
count_of_digits [] = 0
count_of_digits (b ∷ bs) = cond (is_digit b) (suc (count_of_digits bs)) 0

-- what was read goes on; a bad line ends the reading
abbrev pub then : {X Y : Type 0} → Option X → (X → Option Y) → Option Y
then None next = None
then (Some x) next = next x

-- the number that as many digits in front write, and what follows them
abbrev pub numeral_of : ℕ → List ℕ → Option (ℕ × List ℕ)
numeral_of count bs =
    cond (nat_le 1 count && nat_le count MOST_DIGITS && nat_lt (worth (take count bs)) (2 ^ 32)) (Some (worth (take count bs), drop count bs)) None

-- the number after a space, and what follows it
abbrev pub number_of : List ℕ → Option (ℕ × List ℕ)
number_of [] = None
number_of (b ∷ bs) = cond (b == 32) (numeral_of (count_of_digits bs) bs) None

-- a line ends with byte 10, and nothing follows
abbrev pub ended : {X : Type 0} → X → List ℕ → Option X
ended x [] = None
ended x (b ∷ []) = cond (b == 10) (Some x) None
ended x (b ∷ c ∷ bs) = None

-- one number, or two, and the end of the line
abbrev pub one_number : List ℕ → Option ℕ
one_number bs = then (number_of bs) λ p. ended p.0 p.1

abbrev pub two_numbers : List ℕ → Option (ℕ × ℕ)
two_numbers bs = then (number_of bs) λ p. then (one_number p.1) λ n. Some (p.0, n)

-- what the code's reading holds
abbrev pub taken : ℕ × Bor (List ℕ) → ℕ × List ℕ
taken p = (p.0, p.1.now)
