-- What the lists of this crate hold, and their rules.
use Rattle.std.specs.Prelude.{◌≡◌, ◌⊎◌, ℕ, ◌+◌, ◌-◌, ◌<◌, List, [], ◌∷◌, drop, length, reverse}
use Rattle.std.specs.List.{insert}
use Rattle.heap.specs.Bounded.{Holding, capacity}
use Rattle.heap.specs.Rows.{Ascends}
use Rattle.lists.specs.declared.node.Node.{Node}
use Rattle.lists.specs.Moves.{Move, Clear, Put, Refuse, Take}
use Rattle.lists.specs.Nodes.{node_le}

-- another row, with the same capacity
abbrev pub with_row : {X : Type 0} → Holding X → List X → Holding X
with_row h row = record { row = row; free = capacity h - length row }

-- what is stored with the newest last, seen with the newest in front, and the places left
abbrev pub newest_first : {X : Type 0} → ℕ → List X → Holding X
newest_first room xs = record { row = reverse xs; free = room - length xs }

-- the rule of a heap: its row ascends
abbrev pub HeapMoves : Holding Node → Move Node → Holding Node → Type 0
HeapMoves old Clear new = new ≡ with_row old []
HeapMoves old (Put node place) new = (new ≡ with_row old (insert old.row place node)) × Ascends node_le new.row
HeapMoves old (Refuse node) new = new ≡ old
HeapMoves old Take new = (new ≡ with_row old (drop 1 old.row)) × Ascends node_le old.row

-- the rule of a stack: it puts first
abbrev pub StackMoves : Holding Node → Move Node → Holding Node → Type 0
StackMoves old Clear new = new ≡ with_row old []
StackMoves old (Put node place) new = (place ≡ 0) × (new ≡ with_row old (node ∷ old.row))
StackMoves old (Refuse node) new = new ≡ old
StackMoves old Take new = new ≡ with_row old (drop 1 old.row)

-- the nodes that a layer keeps itself, and the list below
pub record Layered (L : Type 0) : Type 0 where
  pub kept : Holding Node
  pub below : L

-- the rule of a dive: it puts first, if it keeps fewer than eight; else behind the eight, at a place that the list below allows, or that list refuses.
-- It takes from the nodes kept, while there are any; else from the list below
abbrev pub DiveMoves : {L : Type 0} → (L → Move Node → L → Type 0) → Layered L → Move Node → Layered L → Type 0
DiveMoves moves old Clear new = StackMoves old.kept Clear new.kept × moves old.below Clear new.below
DiveMoves moves old (Put node place) new =
    ((length old.kept.row < 8) × StackMoves old.kept (Put node place) new.kept × (new.below ≡ old.below))
    ⊎ ((length old.kept.row ≡ 8) × (new.kept ≡ old.kept) × ((behind : ℕ) × (place ≡ 8 + behind) × moves old.below (Put node behind) new.below))
DiveMoves moves old (Refuse node) new = (length old.kept.row ≡ 8) × (new.kept ≡ old.kept) × moves old.below (Refuse node) new.below
DiveMoves moves old Take new =
    ((0 < length old.kept.row) × StackMoves old.kept Take new.kept × (new.below ≡ old.below))
    ⊎ ((old.kept.row ≡ []) × (new.kept ≡ old.kept) × moves old.below Take new.below)
