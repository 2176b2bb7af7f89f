-- What every run with a plan keeps.
use Rattle.std.specs.Prelude.{◌≡◌, ℕ, ◌-◌, ◌<◌, true, if◌then◌else◌, List, length, IsSome}
use Rattle.plans.specs.Kept.{IsKept}
use Rattle.traffic.specs.Safety.{Waited}
use Rattle.traffic.specs.Scene.{OnPaths}
use Rattle.traffic.specs.Tables.{TablesKeepPlan}
use Rattle.traffic.specs.Ticks.{entry_ticks}
use Rattle.floor.specs.declared.table.Shuttle.{Shuttle}
use Rattle.floor.specs.Scenes.{AllPlaced}
use Rattle.floor.specs.Shuttles.{stop_in}
use Rattle.floor.specs.Words.{bit}
use Rattle.run.specs.State.{State, paths_on, tables_on, meetings_on, count_on, scene_now}

-- the stops before the last tick, by the word of those that moved at it
abbrev pub stops_before : ℕ → List Shuttle → ℕ → ℕ
stops_before moved xs s = stop_in xs s - (if bit moved s then 1 else 0)

-- Orders in force: one for each meeting; all that a stop waits for exists, and there is no ring; and every stop entered waited for what it had to, by the stops before the last tick.
pub record InForce (moved : ℕ) (st : State) : Type 0 where
  pub count : length st.firsts ≡ length (meetings_on st)
  pub exist : OnPaths (scene_now st)
  pub no_ring : IsSome (entry_ticks (scene_now st) (count_on st))
  pub came : (s : ℕ) → bit moved s ≡ true → 0 < stop_in st.shuttles s
  pub waited : Waited (scene_now st) (stops_before moved st.shuttles)

-- The plan's rules, shuttles on their paths, orders in force, and at tables those of the plan. `moved` names those that moved at the last tick.
pub record IsSound (moved : ℕ) (st : State) : Type 0 where
  pub kept : IsKept st.plan
  pub placed : AllPlaced (paths_on st) st.shuttles
  pub force : InForce moved st
  pub tables : TablesKeepPlan (paths_on st) (tables_on st) st.firsts

-- So it is, by the word of some last tick.
abbrev pub RunsSoundly : State → Type 0
RunsSoundly st = (moved : ℕ) × IsSound moved st
