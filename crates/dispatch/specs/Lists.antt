-- Costs and waiting lists of any type, by what a type says of its values.
use Rattle.std.specs.Prelude.{ℕ, List}
use Rattle.lists.specs.Moves.{Move}
use Rattle.lists.specs.declared.node.Node.{Node}

-- the total that a cost starts with, and its rule for the next total
pub record CostRules (C : Type 0) : Type 0 where
  pub start : C → ℕ
  pub next : C → ℕ → ℕ → ℕ → ℕ

abbrev pub cost_rules : {C : Type 0} → (C → ℕ) → (C → ℕ → ℕ → ℕ → ℕ) → CostRules C
cost_rules start next = record { start = start; next = next }

-- the nodes in a list's row, its rule of place, and its capacity
pub record ListRules (L : Type 0) : Type 1 where
  pub nodes : L → List Node
  pub moves : L → Move Node → L → Type 0
  pub capacity : L → ℕ

abbrev pub list_rules : {L : Type 0} → (L → List Node) → (L → Move Node → L → Type 0) → (L → ℕ) → ListRules L
list_rules nodes moves capacity = record { nodes = nodes; moves = moves; capacity = capacity }
