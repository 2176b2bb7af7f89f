-- The redrawing of a state: the search for the orders that cost least.
use Rattle.std.specs.Prelude.{◌≡◌, ℕ, List, Ok, Err, Result, IfOk}
use Rattle.lists.specs.Moves.{Move, Follows}
use Rattle.lists.specs.declared.node.Node.{Node}
use Rattle.search.specs.Steps.{Course, searched}
use Rattle.search.specs.declared.found.Found.{Found}
use Rattle.search.specs.declared.found.SearchFault.{SearchFault}
use Rattle.run.specs.State.{State}
use Rattle.redraw.specs.declared.redrawn.Redrawn.{Redrawn}
use Rattle.redraw.specs.declared.redrawn.RedrawFault.{RedrawFault}
use Rattle.redraw.specs.Faults.{from_search}
use Rattle.redraw.specs.Nodes.{question}
use Rattle.redraw.specs.Orders.{orders_of_word}

-- an answer of the search, with the orders of its word
abbrev pub in_orders : State → Result Found SearchFault → Result Redrawn RedrawFault
in_orders st (Ok found) =
    let orders = orders_of_word st found.turned in
    Ok (record { cost = found.cost; taken = found.taken; orders = orders })
in_orders st (Err fault) = Err (from_search fault)

module _ (start : ℕ) (next : ℕ → ℕ → ℕ → ℕ) (st : State) (capacity budget : ℕ) where
  -- by the cost, the list's capacity, the budget, and a place for each put in turn
  unfoldable pub drawn : (places : List ℕ) → Course
  drawn places = searched (question start next st) capacity budget places

  unfoldable pub redrawn : (places : List ℕ) → Result Redrawn RedrawFault
  redrawn places = in_orders st (drawn places).answer

  -- For some places, each allowed by the list's rule, the answer is that of the redrawing, and its
  -- moves lead from the first list to the second.
  pub record Redraws
      {L : Type 0} (nodes : L → List Node) (rule : L → Move Node → L → Type 0)
      (answer : Result Redrawn RedrawFault) (old new : L) : Type 0 where
    pub places : List ℕ
    pub answers : answer ≡ redrawn places
    pub leads : Follows nodes rule old (drawn places).moves new

-- Any redrawing that is not refused answers this cost, whatever the capacity, the budget and the
-- places.
abbrev pub OneCost : (start : ℕ) (next : ℕ → ℕ → ℕ → ℕ) → State → ℕ → Type 0
OneCost start next st cost =
    (capacity budget : ℕ) (places : List ℕ)
    → IfOk (redrawn start next st capacity budget places) (λ other. other.cost ≡ cost)
