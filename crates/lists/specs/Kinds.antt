-- A list of one of two kinds.
use Rattle.std.specs.Prelude.{ℕ, ◌≤◌, List, length}
use Rattle.either.specs.Either.{either, SameSide}
use Rattle.either.specs.declared.Either.{Either}
use Rattle.either.specs.declared.Either.TheVariants.{Left, Right}
use Rattle.lists.specs.declared.node.Node.{Node}
use Rattle.lists.specs.Moves.{Move}

-- the rule of a list of one of two kinds: it stays of its kind, and goes by that kind's rule
abbrev pub EitherMoves :
    {L M : Type 0} → (L → Move Node → L → Type 0) → (M → Move Node → M → Type 0)
    → Either L M → Move Node → Either L M → Type 0
EitherMoves l_moves m_moves old move new =
    SameSide (λ l after. l_moves l move after) (λ m after. m_moves m move after) old new

-- No row of either kind is longer than the capacity.
pub either_bounded :
    {L M : Type 0} (l_nodes : L → List Node) (m_nodes : M → List Node)
    (l_capacity : L → ℕ) (m_capacity : M → ℕ)
    → ((l : L) → length (l_nodes l) ≤ l_capacity l) → ((m : M) → length (m_nodes m) ≤ m_capacity m)
    → (list : Either L M) → length (either l_nodes m_nodes list) ≤ either l_capacity m_capacity list
either_bounded _ _ _ _ l_bounded m_bounded (Left l) = l_bounded l
either_bounded _ _ _ _ l_bounded m_bounded (Right m) = m_bounded m
