-- What every tick keeps: no collision, tables in plan order, and progress.
use Rattle.std.specs.Prelude.{◌≡◌, ℕ, suc, ◌<◌, ◌≤◌, true, length, Some, None, Option, ◌≢◌}
use Rattle.files.specs.Rules.{path_at}
use Rattle.meetings.specs.Laws.{stop_of}
use Rattle.traffic.specs.Safety.{left}
use Rattle.traffic.specs.Scene.{at}
use Rattle.traffic.specs.Tables.{TablesInPlanOrder}
use Rattle.floor.specs.Shuttles.{stop_in}
use Rattle.floor.specs.Words.{bit}
use Rattle.run.specs.Sound.{stops_before}
use Rattle.run.specs.State.{State, paths_on, tables_on, count_on, scene_now}

-- the place that a shuttle is in
abbrev pub place_of : State → ℕ → ℕ
place_of st s = (stop_of (paths_on st) (at s (stop_in st.shuttles s))).place

-- two different shuttles of the plan
pub record Two (st : State) (s r : ℕ) : Type 0 where
  pub one : s < count_on st
  pub other : r < count_on st
  pub apart : s ≢ r

-- no two shuttles are in one place
abbrev pub Apart : State → Type 0
Apart st = (s r : ℕ) → Two st s r → place_of st s ≢ place_of st r

-- none entered a place that another left at the same tick
abbrev pub Behind : State → State → Type 0
Behind st next = (s r : ℕ) → Two st s r → stop_in st.shuttles s < stop_in next.shuttles s → stop_in st.shuttles r < stop_in next.shuttles r → place_of st s ≢ place_of next r

-- the place that a shuttle was in before the last tick, by the word of those that moved at it
abbrev pub place_before : ℕ → State → ℕ → ℕ
place_before moved st s = (stop_of (paths_on st) (at s (stops_before moved st.shuttles s))).place

-- none entered at the last tick a place that another then left
abbrev pub NoneFollowed : ℕ → State → Type 0
NoneFollowed moved st = (s r : ℕ) → Two st s r → bit moved s ≡ true → bit moved r ≡ true → place_before moved st s ≢ place_of st r

-- no table is served out of plan order
abbrev pub InPlanOrder : State → Type 0
InPlanOrder st = TablesInPlanOrder (paths_on st) (tables_on st) (stop_in st.shuttles)

-- There was no collision, and tables are served in plan order.
pub record IsSafe (moved : ℕ) (st : State) : Type 0 where
  pub apart : Apart st
  pub followed : NoneFollowed moved st
  pub tables : InPlanOrder st

-- the unentered stops and hold ticks left
abbrev pub left_on : State → ℕ
left_on st = left (scene_now st) (count_on st)

-- a shuttle short of its last stop
abbrev pub Short : State → ℕ → Type 0
Short st s = (s < count_on st) × (suc (stop_in st.shuttles s) < length (path_at (paths_on st) s))

-- From one state to the next there is no collision: neither before nor after, nor at the tick. No table is served out of plan order. And there is progress: what is left never rises, and it falls at an undisturbed tick as long as some shuttle is short of its last stop.
pub record KeepsOn (standing : ℕ) (st next : State) : Type 0 where
  pub apart_before : Apart st
  pub apart_after : Apart next
  pub behind : Behind st next
  pub tables_before : InPlanOrder st
  pub tables_after : InPlanOrder next
  pub never : left_on next ≤ left_on st
  pub falls : standing ≡ 0 → (s : ℕ) → Short st s → left_on next < left_on st

-- so it is of a run that has a plan
abbrev pub Keeps : ℕ → Option State → Option State → Type 0
Keeps standing (Some st) (Some next) = KeepsOn standing st next
Keeps standing (Some st) None = ⊥
Keeps standing None (Some next) = ⊥
Keeps standing None None = Unit {0}
