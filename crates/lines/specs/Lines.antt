-- The lines of commands.
use Rattle.std.specs.Prelude.{◌≡◌, ℕ, cond, List, [], ◌∷◌, ◌++◌, Some, None, codes, decimal, Option, ◌==◌}
use Rattle.lines.specs.declared.commands.Command.{Command}
use Rattle.lines.specs.declared.commands.Command.TheVariants.{Hold, Tick, Redraw, Sheet}
use Rattle.lines.specs.Numbers.{Writes, then, ended, one_number, two_numbers}

-- the letter that a line begins with
abbrev pub letter : Command → ℕ
letter (Hold shuttle ticks) = 72
letter (Tick standing) = 84
letter (Redraw budget) = 82
letter Sheet = 83

-- the numbers that follow
abbrev pub numbers : Command → List ℕ
numbers (Hold shuttle ticks) = shuttle ∷ ticks ∷ []
numbers (Tick standing) = standing ∷ []
numbers (Redraw budget) = budget ∷ []
numbers Sheet = []

-- each number as some digits after one space, and then the end of the line
abbrev pub SpellsNumbers : List ℕ → List ℕ → Type 0
SpellsNumbers [] bs = bs ≡ 10 ∷ []
SpellsNumbers (n ∷ ns) bs = (ds : List ℕ) × (rest : List ℕ) × (bs ≡ 32 ∷ ds ++ rest) × Writes ds n × SpellsNumbers ns rest

-- a line is a spelling of a command: its letter, then its numbers
abbrev pub Spells : Command → List ℕ → Type 0
Spells c bs = (rest : List ℕ) × (bs ≡ letter c ∷ rest) × SpellsNumbers (numbers c) rest

-- a command is read exactly where the line is a spelling of it
abbrev pub ReadsExactly : Option Command → List ℕ → Type 0
ReadsExactly r bs = (c : Command) → (r ≡ Some c → Spells c bs) × (Spells c bs → r ≡ Some c)

-- the command that a letter and what follows it give
abbrev pub command_from : ℕ → List ℕ → Option Command
command_from b bs =
    cond (b == 72) (then (two_numbers bs) λ p. Some (Hold p.0 p.1))
    (cond (b == 84) (then (one_number bs) λ n. Some (Tick n))
    (cond (b == 82) (then (one_number bs) λ n. Some (Redraw n))
    (cond (b == 83) (ended Sheet bs)
    None)))

abbrev pub command_of : List ℕ → Option Command
command_of [] = None
command_of (b ∷ bs) = command_from b bs

-- the line of a command
abbrev pub command_text : Command → List ℕ
command_text (Hold shuttle ticks) = codes "H " ++ decimal shuttle ++ codes " " ++ decimal ticks ++ 10 ∷ []
command_text (Tick standing) = codes "T " ++ decimal standing ++ 10 ∷ []
command_text (Redraw budget) = codes "R " ++ decimal budget ++ 10 ∷ []
command_text Sheet = codes "S" ++ 10 ∷ []
