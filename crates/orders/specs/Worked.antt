-- A plan worked by hand: shuttle 0 passes place 5 at tick 1, shuttle 1 at tick 3.
use Rattle.std.specs.Prelude.{◌≡◌, ℕ, List, [], ◌∷◌}
use Rattle.files.specs.declared.plan.Stop.{Stop}
use Rattle.meetings.specs.declared.meet.Meeting.{Meeting}
use Rattle.meetings.specs.Meetings.{meetings}
use Rattle.orders.specs.File.{order_bytes}
use Rattle.orders.specs.Waits.{waits, firsts_of, own_waits}

abbrev pub stop : ℕ → ℕ → Stop
stop place tick = record { place = place; tick = tick }

abbrev pub worked_plan : List (List Stop)
worked_plan = (stop 1 0 ∷ stop 5 1 ∷ stop 2 2 ∷ []) ∷ (stop 3 0 ∷ stop 5 3 ∷ stop 4 4 ∷ []) ∷ []

-- one wait: stop 1 of shuttle 1 waits for stop 2 of shuttle 0
abbrev pub WorkedOrders : Type 0
WorkedOrders =
    order_bytes 2 (waits (meetings worked_plan) (firsts_of (meetings worked_plan)))
    ≡ 0 ∷ 2 ∷ 0 ∷ 10 ∷ 0 ∷ 0 ∷ 0 ∷ 10 ∷ 0 ∷ 1 ∷ 0 ∷ 1 ∷ 0 ∷ 0 ∷ 0 ∷ 2 ∷ []

-- the plan's own waits are those of its firsts
abbrev pub OwnWaits : Type 0
OwnWaits = (ms : List Meeting) → waits ms (firsts_of ms) ≡ own_waits ms
