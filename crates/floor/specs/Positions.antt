-- Where the shuttles of a plan are: what a contract sees of a floor.
use Rattle.std.specs.Prelude.{ℕ, Bool, List, length, Option, nat_le}
use Rattle.std.specs.List.{AllByRecursion}
use Rattle.files.specs.declared.plan.Stop.{Stop}
use Rattle.meetings.specs.declared.meet.First.{First}
use Rattle.meetings.specs.declared.meet.Meeting.{Meeting}
use Rattle.meetings.specs.declared.stays.At.{At}
use Rattle.meetings.specs.Laws.{Meets}
use Rattle.plans.specs.Kept.{OpenedPlan, IsKept}
use Rattle.traffic.specs.Scene.{Scene}
use Rattle.floor.specs.declared.floor.calls.FloorFault.{FloorFault}
use Rattle.floor.specs.declared.table.Shuttle.{Shuttle}
use Rattle.floor.specs.Calls.{after_hold, fault_of_hold, tick_fault}
use Rattle.floor.specs.Open.{OpenAt, is_open_at}
use Rattle.floor.specs.Scenes.{scene, after_tick, word_of_moved, AllPlaced}
use Rattle.floor.specs.Shuttles.{all_fresh, stop_in}

-- a plan, and the record of each of its shuttles
pub record Position : Type 0 where
  pub plan : OpenedPlan
  pub shuttles : List Shuttle

abbrev pub paths_in : Position → List (List Stop)
paths_in p = p.plan.paths

abbrev pub tables_in : Position → List ℕ
tables_in p = p.plan.tables

abbrev pub meetings_in : Position → List Meeting
meetings_in p = p.plan.meetings

-- the plan keeps all rules, its meetings are meetings, and every shuttle is on its path
pub record IsSound (p : Position) : Type 0 where
  pub kept : IsKept p.plan
  pub meet : AllByRecursion (Meets p.plan.paths) p.plan.meetings
  pub placed : AllPlaced p.plan.paths p.shuttles

-- the scene under orders
abbrev pub scene_in : Position → List (Option First) → Scene
scene_in p orders = scene p.plan.paths orders p.shuttles

-- whether a shuttle has entered a stop
abbrev pub entered_in : Position → At → Bool
entered_in p a = nat_le a.stop (stop_in p.shuttles a.shuttle)

-- every shuttle at stop 0, and no holds
abbrev pub fresh_on : OpenedPlan → Position
fresh_on plan = record { plan = plan; shuttles = all_fresh (length plan.paths) }

-- why a hold is refused, and what is there after one that is not
abbrev pub hold_fault : Position → ℕ → ℕ → Option FloorFault
hold_fault p s ticks = fault_of_hold p.plan.paths p.shuttles s ticks

abbrev pub held : ℕ → ℕ → Position → Position
held s ticks p = record { plan = p.plan; shuttles = after_hold p.shuttles s ticks }

-- why a tick is refused; what is there after one that is not, and the word of those that moved
abbrev pub standing_fault : Position → ℕ → Option FloorFault
standing_fault p standing = tick_fault p.plan.paths standing

abbrev pub ticked : List (Option First) → ℕ → Position → Position
ticked orders standing p = record { plan = p.plan; shuttles = after_tick p.plan.paths orders standing p.shuttles }

abbrev pub moved_at : List (Option First) → ℕ → Position → ℕ
moved_at orders standing p = word_of_moved p.plan.paths orders standing p.shuttles

-- a meeting that is open, by its number in the plan, and the test of it
abbrev pub IsOpen : Position → ℕ → Type 0
IsOpen p j = OpenAt p.plan.paths p.plan.tables p.shuttles p.plan.meetings j

abbrev pub is_open : Position → ℕ → Bool
is_open p j = is_open_at p.plan.paths p.plan.tables p.shuttles p.plan.meetings j
