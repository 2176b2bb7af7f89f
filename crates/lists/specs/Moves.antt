-- What the calls of a waiting list do to it, and how it goes from state to state.
use Rattle.std.specs.Prelude.{◌≡◌, ℕ, ◌<◌, ◌≤◌, List, [], ◌∷◌, drop, length, Option, Result, MatchOption, MatchResult}
use Rattle.std.specs.List.{insert}

-- what happens to a list: it is cleared, x is put at a place of its row, x is refused, or the first is taken
pub data Move (X : Type 0) : Type 0 where
  Clear : Move X
  Put : (x : X) (place : ℕ) → Move X
  Refuse : (x : X) → Move X
  Take : Move X

-- what a move does to the row; a refusal leaves it as it is, and so does a take of an empty one
abbrev pub RowGoes : {X : Type 0} → List X → Move X → List X → Type 0
RowGoes old Clear new = new ≡ []
RowGoes old (Put x place) new = (place ≤ length old) × (new ≡ insert old place x)
RowGoes old (Refuse x) new = new ≡ old
RowGoes old Take new = new ≡ drop 1 old

-- a rule that puts only first
abbrev pub PutsFirst : {L X : Type 0} → (L → Move X → L → Type 0) → Type 0
PutsFirst {L} {X} rule = (old new : L) (x : X) (place : ℕ) → rule old (Put x place) new → place ≡ 0

-- the first is taken and the others stay; or there is none
abbrev pub Takes : {X : Type 0} → List X → Option X → List X → Type 0
Takes old r new = MatchOption r ((old ≡ []) × (new ≡ [])) (λ x. old ≡ x ∷ new)

-- of a list with a row, a capacity and a rule
module _ {L X : Type 0} (row : L → List X) (rule : L → Move X → L → Type 0) where
  -- The rule allows the move from the first list to the second, and the row goes by it.
  abbrev pub Goes : L → Move X → L → Type 0
  Goes old move new = rule old move new × RowGoes (row old) move (row new)

  -- The list goes by these moves, one after another, from the first list to the second.
  abbrev pub Follows : L → List (Move X) → L → Type 0
  Follows old [] new = new ≡ old
  Follows old (move ∷ moves) new = (mid : L) × Goes old move mid × Follows mid moves new

  module _ (capacity : L → ℕ) (x : X) where
    -- x is put at a place that the rule allows, the others keeping their order; the row was shorter than the capacity
    abbrev pub Enters : L → L → Type 0
    Enters old new = (length (row old) < capacity old) × ((place : ℕ) × Goes old (Put x place) new)

    -- x is refused; the row is as long as the capacity
    abbrev pub Refuses : L → L → Type 0
    Refuses old new = (length (row old) ≡ capacity old) × Goes old (Refuse x) new

    abbrev pub Puts : {U F : Type 0} → Result U F → L → L → Type 0
    Puts r old new = MatchResult r (λ _. Enters old new) (λ _. Refuses old new)
