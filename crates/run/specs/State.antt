-- The state of a run that has a plan.
use Rattle.std.specs.Prelude.{ℕ, List, length, Option}
use Rattle.files.specs.declared.plan.Stop.{Stop}
use Rattle.meetings.specs.declared.meet.First.{First}
use Rattle.meetings.specs.declared.meet.Meeting.{Meeting}
use Rattle.plans.specs.declared.plan.Plan.{Plan}
use Rattle.traffic.specs.Plans.{named}
use Rattle.traffic.specs.Scene.{Scene}
use Rattle.floor.specs.declared.table.Shuttle.{Shuttle}
use Rattle.floor.specs.Scenes.{scene}

-- the run's number, its plan, where each shuttle is and how long it is held, and who goes first at each meeting
pub record State : Type 0 where
  pub number : ℕ
  pub plan : Plan
  pub shuttles : List Shuttle
  pub firsts : List First

abbrev pub paths_on : State → List (List Stop)
paths_on st = st.plan.paths

abbrev pub tables_on : State → List ℕ
tables_on st = st.plan.tables

abbrev pub meetings_on : State → List Meeting
meetings_on st = st.plan.meetings

-- how many shuttles there are
abbrev pub count_on : State → ℕ
count_on st = length (paths_on st)

-- the scene under orders, of which some may be left out, and under those in force
abbrev pub scene_under : State → List (Option First) → Scene
scene_under st orders = scene (paths_on st) orders st.shuttles

abbrev pub scene_now : State → Scene
scene_now st = scene_under st (named st.firsts)
