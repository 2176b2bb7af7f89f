-- The laws of redrawing.
use Rattle.std.specs.Prelude.{ℕ, ◌+◌, ◌^◌, ◌≤◌, List, length, IfOk, IsOk}
use Rattle.costs.specs.Laws.{IsCost}
use Rattle.search.specs.Questions.{IsSearchable}
use Rattle.run.specs.Opens.{open_meetings}
use Rattle.run.specs.Sound.{RunsSoundly}
use Rattle.run.specs.State.{State}
use Rattle.redraw.specs.declared.finder.TheConstants.{MOST_OPEN}
use Rattle.redraw.specs.Costs.{IsBest}
use Rattle.redraw.specs.Nodes.{question}
use Rattle.redraw.specs.Orders.{WordsLaw}
use Rattle.redraw.specs.Redraws.{OneCost, redrawn}

-- Words stand for just the orders that agree with those in force wherever a meeting is not open.
abbrev pub WordsStandForOrders : Type 0
WordsStandForOrders = (st : State) → WordsLaw st

-- a state of a run in which few enough meetings are open
pub record CanRedraw (st : State) : Type 0 where
  pub sound : RunsSoundly st
  pub few : length (open_meetings st) ≤ MOST_OPEN

-- What is asked of the search can be searched.
abbrev pub RunsAreSearchable : Type 0
RunsAreSearchable =
    (start : ℕ) (next : ℕ → ℕ → ℕ → ℕ) (st : State) → IsCost start next → CanRedraw st
    → IsSearchable (question start next st)

-- What is redrawn is best, whatever the capacity, the budget and the places.
abbrev pub RedrawsBest : Type 0
RedrawsBest =
    (start : ℕ) (next : ℕ → ℕ → ℕ → ℕ) (st : State) → IsCost start next → CanRedraw st
    → (capacity budget : ℕ) (places : List ℕ)
    → IfOk (redrawn start next st capacity budget places)
    (λ r. IsBest start next st r.orders r.cost)

-- So any two redrawings of a state by one cost that are not refused answer the same cost.
abbrev pub RedrawsOneCost : Type 0
RedrawsOneCost =
    (start : ℕ) (next : ℕ → ℕ → ℕ → ℕ) (st : State) → IsCost start next → CanRedraw st
    → (capacity budget : ℕ) (places : List ℕ)
    → IfOk (redrawn start next st capacity budget places) (λ r. OneCost start next st r.cost)

-- With room for 2 ^ n nodes, and a budget of 2 ^ (n + 1) - 1 or more, n open meetings are always
-- redrawn.
abbrev pub RedrawsWithRoom : Type 0
RedrawsWithRoom =
    (start : ℕ) (next : ℕ → ℕ → ℕ → ℕ) (st : State) → IsCost start next → CanRedraw st
    → (capacity budget : ℕ) (places : List ℕ)
    → 2 ^ length (open_meetings st) ≤ capacity
    → 2 ^ (length (open_meetings st) + 1) ≤ budget + 1
    → IsOk (redrawn start next st capacity budget places)

pub record RedrawLaws : Type 0 where
  pub words : WordsStandForOrders
  pub searchable : RunsAreSearchable
  pub best : RedrawsBest
  pub same : RedrawsOneCost
  pub finds : RedrawsWithRoom
