-- The laws of searches.
use Rattle.std.specs.Prelude.{◌≡◌, ℕ, ◌+◌, ◌^◌, ◌≤◌, List, Result, IfOk, IsOk}
use Rattle.search.specs.Questions.{Question, IsSearchable, Least}
use Rattle.search.specs.Steps.{searched}
use Rattle.search.specs.declared.found.Found.{Found}
use Rattle.search.specs.declared.found.SearchFault.{SearchFault}

-- Whatever the room, the budget and the places, what a search finds is least.
abbrev pub FindsLeast : Type 0
FindsLeast =
    (q : Question) → IsSearchable q → (room budget : ℕ) (places : List ℕ)
    → IfOk (searched q room budget places).answer (λ found. Least q found.turned found.cost)

-- If both found something, it costs the same.
abbrev pub SameCost : Result Found SearchFault → Result Found SearchFault → Type 0
SameCost r s = IfOk r (λ found. IfOk s (λ other. found.cost ≡ other.cost))

-- So any two searches that find something find the same cost.
abbrev pub FindsOneCost : Type 0
FindsOneCost =
    (q : Question) → IsSearchable q
    → (room budget : ℕ) (places : List ℕ) (other_room other_budget : ℕ) (other_places : List ℕ)
    → SameCost (searched q room budget places).answer
    (searched q other_room other_budget other_places).answer

-- With room for 2 ^ n nodes, and a budget of 2 ^ (n + 1) - 1 or more, n meetings are always
-- searched to the end.
abbrev pub FindsWithRoom : Type 0
FindsWithRoom =
    (q : Question) → IsSearchable q → (room budget : ℕ) (places : List ℕ)
    → 2 ^ q.count ≤ room → 2 ^ (q.count + 1) ≤ budget + 1
    → IsOk (searched q room budget places).answer
