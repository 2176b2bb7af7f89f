-- Tables are served in the order of the plan.
use Rattle.std.specs.Prelude.{◌≡◌, ℕ, ◌<◌, ◌≤◌, List, length, slice_index_or}
use Rattle.std.specs.List.{ContainsAt}
use Rattle.files.specs.declared.plan.Stop.{Stop}
use Rattle.meetings.specs.declared.meet.First.{First}
use Rattle.meetings.specs.declared.meet.First.TheVariants.{Lower}
use Rattle.meetings.specs.declared.meet.Meeting.{Meeting}
use Rattle.meetings.specs.declared.stays.At.{At}
use Rattle.meetings.specs.Laws.{stop_of}
use Rattle.meetings.specs.Meetings.{meetings}
use Rattle.orders.specs.Waits.{stops_in_order}
use Rattle.traffic.specs.Index.{meeting_at}
use Rattle.traffic.specs.Plans.{named, scene_of}
use Rattle.traffic.specs.Safety.{Waited}

-- a shuttle has entered a stop, and it has left it: it has entered the next
abbrev pub HasEntered : (ℕ → ℕ) → At → Type 0
HasEntered entered a = a.stop ≤ entered a.shuttle

abbrev pub HasLeft : (ℕ → ℕ) → At → Type 0
HasLeft entered a = a.stop < entered a.shuttle

-- a meeting at a table
abbrev pub AtTable : List (List Stop) → List ℕ → Meeting → Type 0
AtTable ps tables m = ContainsAt tables (stop_of ps m.lower).place

-- A table is served out of plan order when, at a meeting there, the second in the plan has entered its stop and the first has not left its own.
pub record OutOfPlanOrder (ps : List (List Stop)) (tables : List ℕ) (entered : ℕ → ℕ) (m : Meeting) : Type 0 where
  pub meets : ContainsAt (meetings ps) m
  pub table : AtTable ps tables m
  pub second : HasEntered entered (stops_in_order m m.first).1
  pub first : HasLeft entered (stops_in_order m m.first).0 → ⊥

-- No table is.
abbrev pub TablesInPlanOrder : List (List Stop) → List ℕ → (ℕ → ℕ) → Type 0
TablesInPlanOrder ps tables entered = (m : Meeting) → OutOfPlanOrder ps tables entered m → ⊥

-- At each meeting at a table goes first who does in the plan.
abbrev pub TablesKeepPlan : List (List Stop) → List ℕ → List First → Type 0
TablesKeepPlan ps tables fs = (j : ℕ) → j < length (meetings ps) → AtTable ps tables (meeting_at (meetings ps) j) → slice_index_or fs j Lower ≡ (meeting_at (meetings ps) j).first

-- Where that is so and every entered stop has waited, tables are served in plan order.
abbrev pub TablesAreServedInOrder : Type 0
TablesAreServedInOrder =
    (ps : List (List Stop)) (tables : List ℕ) (fs : List First) (entered hold before : ℕ → ℕ) → length fs ≡ length (meetings ps)
    → TablesKeepPlan ps tables fs → Waited (scene_of ps (named fs) entered hold) before → TablesInPlanOrder ps tables entered
