-- The calls on a run: when they are refused, what they answer, and what they do to its state.
use Rattle.std.specs.Prelude.{◌≡◌, ℕ, zero, suc, List, length, Some, None, Ok, Err, Option, Result}
use Rattle.std.specs.Option.{option_map}
use Rattle.meetings.specs.declared.meet.First.{First}
use Rattle.orders.specs.Waits.{firsts_of}
use Rattle.plans.specs.declared.plan.Plan.{Plan}
use Rattle.plans.specs.declared.plan.opening.PlanFault.{PlanFault}
use Rattle.plans.specs.Opening.{Opens, OpensExactly, FirstsStand, GivesFirstCollision}
use Rattle.traffic.specs.Plans.{named}
use Rattle.floor.specs.Calls.{judged, unless, fault_of_hold, after_hold, tick_fault}
use Rattle.floor.specs.Refused.{from_floor}
use Rattle.floor.specs.Scenes.{after_tick, word_of_moved}
use Rattle.floor.specs.Shuttles.{all_fresh}
use Rattle.refusals.specs.declared.Refusal.{Refusal}
use Rattle.refusals.specs.declared.Refusal.TheVariants as refusal
use Rattle.run.specs.State.{State, paths_on}

-- a call on a run: refused where there is no plan, else as it is judged on the state
abbrev pub on_plan : (State → Option Refusal) → Option State → Option Refusal
on_plan judge None = Some refusal.NoPlan
on_plan judge (Some s) = judge s

-- A call: its answer by why it is refused, and the state after it. A refused call changes nothing.
pub record Took {X : Type 0} (why : Option Refusal) (answer : X) (after : Option State) (r : Result X Refusal) (s t : Option State) : Type 0 where
  pub result : r ≡ judged why answer
  pub state : t ≡ unless why after s

-- a hold
abbrev pub hold_refusal : ℕ → ℕ → State → Option Refusal
hold_refusal s ticks st = option_map from_floor (fault_of_hold (paths_on st) st.shuttles s ticks)

abbrev pub held : ℕ → ℕ → State → State
held s ticks st = record { number = st.number; plan = st.plan; shuttles = after_hold st.shuttles s ticks; firsts = st.firsts }

-- a tick by a standing word
abbrev pub tick_refusal : ℕ → State → Option Refusal
tick_refusal standing st = option_map from_floor (tick_fault (paths_on st) standing)

abbrev pub ticked : ℕ → State → State
ticked standing st = record { number = st.number; plan = st.plan; shuttles = after_tick (paths_on st) (named st.firsts) standing st.shuttles; firsts = st.firsts }

abbrev pub moved_on : ℕ → State → ℕ
moved_on standing st = word_of_moved (paths_on st) (named st.firsts) standing st.shuttles

-- without a plan nobody moves
abbrev pub moved_by : ℕ → Option State → ℕ
moved_by standing None = 0
moved_by standing (Some st) = moved_on standing st

-- these calls on a run
abbrev pub TakesHold : (s ticks : ℕ) → Result (Unit {0}) Refusal → Option State → Option State → Type 0
TakesHold s ticks r old new = Took (on_plan (hold_refusal s ticks) old) tt (option_map (held s ticks) old) r old new

abbrev pub TakesTick : (standing : ℕ) → Result ℕ Refusal → Option State → Option State → Type 0
TakesTick standing r old new = Took (on_plan (tick_refusal standing) old) (moved_by standing old) (option_map (ticked standing) old) r old new

-- the state after so many undisturbed ticks
abbrev pub after_ticks : ℕ → State → State
after_ticks zero st = st
after_ticks (suc n) st = after_ticks n (ticked 0 st)

-- the same state with other orders in force
abbrev pub ordered : List First → State → State
ordered orders st = record { number = st.number; plan = st.plan; shuttles = st.shuttles; firsts = orders }

-- every shuttle at stop 0, no holds, and the plan's orders
abbrev pub fresh_on : ℕ → Plan → State
fresh_on number p = record { number = number; plan = p; shuttles = all_fresh (length p.paths); firsts = firsts_of p.meetings }

-- what the file is of which a plan is read, or why it is refused
pub record ReadsPlan (r : Result Plan PlanFault) (bs : List ℕ) : Type 0 where
  pub value : Opens r bs
  pub exact : OpensExactly r bs
  pub firsts : FirstsStand r
  pub collision : GivesFirstCollision r bs

-- Opening a run without a plan: it is fresh on the plan, or refused as the plan is. Want of memory says nothing of the file.
abbrev pub OpenedFresh : Result (Unit {0}) Refusal → ℕ → List ℕ → Option State → Type 0
OpenedFresh (Ok x) number bs t = (p : Plan) × ReadsPlan (Ok p) bs × (t ≡ Some (fresh_on number p))
OpenedFresh (Err (refusal.Plan f)) number bs t = ReadsPlan (Err f) bs × (t ≡ None)
OpenedFresh (Err refusal.Memory) number bs t = t ≡ None
OpenedFresh (Err why) number bs t = ⊥

-- A run that has a plan keeps it.
abbrev pub Opened : Result (Unit {0}) Refusal → ℕ → List ℕ → Option State → Option State → Type 0
Opened r number bs None t = OpenedFresh r number bs t
Opened r number bs (Some st) t = (r ≡ Err refusal.HasPlan) × (t ≡ Some st)

-- what is driven afresh from a plan file, or why its plan is refused
abbrev pub Drives : Result State Refusal → ℕ → List ℕ → Type 0
Drives (Ok st) number bs = OpenedFresh (Ok tt) number bs (Some st)
Drives (Err why) number bs = OpenedFresh (Err why) number bs None
