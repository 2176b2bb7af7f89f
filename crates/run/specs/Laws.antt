-- The laws of runs.
use Rattle.std.specs.Prelude.{◌≡◌, ◌≢◌, ℕ, ◌^◌, ◌<◌, List, length, None, Option}
use Rattle.meetings.specs.declared.meet.First.{First}
use Rattle.plans.specs.declared.plan.Plan.{Plan}
use Rattle.plans.specs.Kept.{IsKept}
use Rattle.traffic.specs.Plans.{named}
use Rattle.traffic.specs.Scene.{OnPaths}
use Rattle.traffic.specs.Ticks.{IsWithin}
use Rattle.run.specs.Calls.{hold_refusal, held, ticked, moved_on, ordered, fresh_on}
use Rattle.run.specs.Executions.{arrivals_now, Execution}
use Rattle.run.specs.Guards.{IsSafe, left_on, KeepsOn}
use Rattle.run.specs.Lawful.{Agrees, LawfulFor}
use Rattle.run.specs.Opens.{OpensLaw}
use Rattle.run.specs.Sound.{IsSound}
use Rattle.run.specs.State.{State, meetings_on, count_on, scene_under}

-- A fresh run is sound, and so is a run after a hold that is taken, after a tick by the word of those that moved, and after lawful orders are put in force.
abbrev pub FreshIsSound : Type 0
FreshIsSound = (number : ℕ) (p : Plan) → IsKept p → IsSound 0 (fresh_on number p)

abbrev pub HoldsKeepSound : Type 0
HoldsKeepSound = (moved : ℕ) (st : State) (s ticks : ℕ) → IsSound moved st → hold_refusal s ticks st ≡ None → IsSound moved (held s ticks st)

abbrev pub TicksKeepSound : Type 0
TicksKeepSound = (moved : ℕ) (st : State) (standing : ℕ) → IsSound moved st → IsSound (moved_on standing st) (ticked standing st)

abbrev pub LawfulOrdersKeepSound : Type 0
LawfulOrdersKeepSound = (moved : ℕ) (st : State) (orders : List First) → IsSound moved st → LawfulFor st orders → IsSound moved (ordered orders st)

-- In a sound run there was no collision, and tables are served in plan order.
abbrev pub SoundIsSafe : Type 0
SoundIsSafe = (moved : ℕ) (st : State) → IsSound moved st → IsSafe moved st

-- A tick of it brings no collision, serves tables in plan order, and makes progress.
abbrev pub TicksAreSafe : Type 0
TicksAreSafe = (moved : ℕ) (st : State) (standing : ℕ) → IsSound moved st → KeepsOn standing st (ticked standing st)

-- So does one that is refused, which names a shuttle and changes nothing.
abbrev pub RefusedTicksAreSafe : Type 0
RefusedTicksAreSafe = (moved : ℕ) (st : State) (standing : ℕ) → IsSound moved st → standing ≢ 0 → KeepsOn standing st st

-- The shuttles of the plan are all, under any orders. Where orders agree with those in force, all that a stop waits for exists.
abbrev pub ShuttlesAreAll : Type 0
ShuttlesAreAll = (moved : ℕ) (st : State) (orders : List (Option First)) → IsSound moved st → IsWithin (count_on st) (scene_under st orders)

abbrev pub AgreedIsOnPaths : Type 0
AgreedIsOnPaths =
    (moved : ℕ) (st : State) (orders : List First) → IsSound moved st → length orders ≡ length (meetings_on st) → Agrees st orders → OnPaths (scene_under st (named orders))

-- What is left fits 32 bits; no entry tick is later.
abbrev pub LeftIsFew : Type 0
LeftIsFew = (moved : ℕ) (st : State) → IsSound moved st → left_on st < 2 ^ 32

-- The arrivals under the orders in force are those of the run's own ticks.
abbrev pub ArrivalsExecute : Type 0
ArrivalsExecute = (moved : ℕ) (st : State) → IsSound moved st → Execution st (arrivals_now st)

pub record RunLaws : Type 0 where
  pub fresh : FreshIsSound
  pub holds : HoldsKeepSound
  pub ticks : TicksKeepSound
  pub orders : LawfulOrdersKeepSound
  pub safety : SoundIsSafe
  pub safe : TicksAreSafe
  pub still : RefusedTicksAreSafe
  pub all : ShuttlesAreAll
  pub agreed : AgreedIsOnPaths
  pub few : LeftIsFew
  pub execution : ArrivalsExecute
  pub opens : (st : State) → OpensLaw st
