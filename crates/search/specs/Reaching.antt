-- What a search makes of its list.
use Rattle.std.specs.Prelude.{◌≡◌, ◌⊎◌, ℕ, ◌^◌, ◌<◌, ◌≤◌, List, [], ◌∷◌, Result, IsOk, IsErr}
use Rattle.lists.specs.Moves.{Move, Clear, Enters, Follows, Goes, PutsFirst, Refuses}
use Rattle.lists.specs.declared.node.Node.{Node}
use Rattle.search.specs.Questions.{Question}
use Rattle.search.specs.Steps.{Course, searched}
use Rattle.search.specs.declared.found.Found.{Found}
use Rattle.search.specs.declared.found.SearchFault.{SearchFault}

-- room enough for the nodes that may wait where n meetings are open: 2 ^ n, or n + 1 in a list that
-- puts only first
abbrev pub HasRoom : {L : Type 0} → ℕ → (L → Move Node → L → Type 0) → ℕ → Type 0
HasRoom n rule capacity = (2 ^ n ≤ capacity) ⊎ (PutsFirst rule × (n < capacity))

module _ {L : Type 0} (nodes : L → List Node) (rule : L → Move Node → L → Type 0) where
  -- At some places, each allowed by the list's rule, the search has this answer, and its moves lead
  -- from the first list to the second.
  pub record Searches
      (q : Question) (room budget : ℕ)
      (answer : Result Found SearchFault) (old new : L) : Type 0 where
    pub places : List ℕ
    pub answers : answer ≡ (searched q room budget places).answer
    pub leads : Follows nodes rule old (searched q room budget places).moves new

  -- The same of a course from a row on.
  abbrev pub Reaches : (List Node → List ℕ → Course) → Result Found SearchFault → L → L → Type 0
  Reaches course answer old new =
      (places : List ℕ) × (answer ≡ (course (nodes old) places).answer)
      × Follows nodes rule old (course (nodes old) places).moves new

  -- The same, once the last list is cleared.
  abbrev pub ReachesCleared :
      (List Node → List ℕ → Course) → Result Found SearchFault → L → L → Type 0
  ReachesCleared course answer old new =
      (end : L) → Goes nodes rule new Clear end → Reaches course answer old end

  -- The nodes are put one after another, until one is refused.
  abbrev pub PutsEach : {U F : Type 0} → (L → ℕ) → List Node → Result U F → L → L → Type 0
  PutsEach capacity [] result old new = IsOk result × (new ≡ old)
  PutsEach capacity (x ∷ xs) result old new =
      (IsErr result × Refuses nodes rule capacity x old new)
      ⊎ ((mid : L) × Enters nodes rule capacity x old mid × (capacity mid ≡ capacity old)
      × PutsEach capacity xs result mid new)
