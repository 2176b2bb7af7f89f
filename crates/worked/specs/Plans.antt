-- The worked plans.
use Rattle.std.specs.Prelude.{ℕ, List, [], ◌∷◌}
use Rattle.files.specs.declared.plan.Stop.{Stop}
use Rattle.meetings.specs.Meetings.{meetings}
use Rattle.orders.specs.Worked.{stop}
use Rattle.plans.specs.declared.plan.Plan.{Plan}

-- a plan by its paths and its tables
abbrev pub plan_of : List (List Stop) → List ℕ → Plan
plan_of paths tables = record { paths = paths; tables = tables; meetings = meetings paths }

-- Shuttle 0 passes place 5 at tick 1, and shuttle 1 passes it at tick 3.
abbrev pub one_meeting : List (List Stop)
one_meeting = (stop 1 0 ∷ stop 5 1 ∷ stop 2 2 ∷ []) ∷ (stop 3 0 ∷ stop 5 3 ∷ stop 4 4 ∷ []) ∷ []

-- Shuttle 0 passes place 5 and then place 6, and shuttle 1 passes them later in the opposite order.
abbrev pub two_meetings : List (List Stop)
two_meetings =
    (stop 1 0 ∷ stop 5 1 ∷ stop 6 2 ∷ stop 2 3 ∷ [])
    ∷ (stop 3 0 ∷ stop 6 5 ∷ stop 5 6 ∷ stop 4 7 ∷ [])
    ∷ []

-- P; P with place 5 a table; and Q
abbrev pub p_plan : Plan
p_plan = plan_of one_meeting []

abbrev pub p_plan_with_table : Plan
p_plan_with_table = plan_of one_meeting (5 ∷ [])

abbrev pub q_plan : Plan
q_plan = plan_of two_meetings []
