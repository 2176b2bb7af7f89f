-- Entry ticks of a run, as a timetable has them.
use Rattle.std.specs.Prelude.{◌≡◌, ℕ, List, Some, None, Ok, Err, Option, OnOk, Result}
use Rattle.meetings.specs.declared.meet.First.{First}
use Rattle.traffic.specs.Scene.{Scene, Numbers}
use Rattle.traffic.specs.Ticks.{entry_ticks}
use Rattle.floor.specs.Times.{Times, IsTimetable}
use Rattle.refusals.specs.declared.Refusal.{Refusal}
use Rattle.refusals.specs.declared.Refusal.TheVariants as refusal
use Rattle.run.specs.declared.run.asks.EntryFault.{EntryFault}
use Rattle.run.specs.declared.run.asks.EntryFault.TheVariants.{NoPlan, Ring}
use Rattle.run.specs.Executions.{arrivals_now, Execution}
use Rattle.run.specs.State.{State, count_on, scene_under, scene_now}

-- there are entry ticks, or there is a ring
abbrev pub ring_or : Option Numbers → Result (Unit {0}) EntryFault
ring_or None = Err Ring
ring_or (Some e) = Ok tt

-- The answer is by the entry ticks of the first n shuttles. If there are any the timetable has them, and exactly the arrivals, in number order.
pub record TicksOf (c : Scene) (n : ℕ) (r : Result (Unit {0}) EntryFault) (t : Times) : Type 0 where
  pub answer : r ≡ ring_or (entry_ticks c n)
  pub timetable : OnOk r (IsTimetable c n t)

-- under orders, of which some may be left out; without a plan the timetable stays
abbrev pub TicksUnder : List (Option First) → Option State → Result (Unit {0}) EntryFault → Times → Times → Type 0
TicksUnder orders None r old new = (r ≡ Err NoPlan) × (new ≡ old)
TicksUnder orders (Some st) r old new = TicksOf (scene_under st orders) (count_on st) r new

-- Under the orders in force there always are entry ticks, and the arrivals are those of the run's own undisturbed ticks.
pub record HasExpected (st : State) (t : Times) : Type 0 where
  pub timetable : IsTimetable (scene_now st) (count_on st) t
  pub arrivals : t.arrivals ≡ arrivals_now st
  pub execution : Execution st (arrivals_now st)

-- without a plan the timetable stays
abbrev pub Expected : Option State → Result (Unit {0}) Refusal → Times → Times → Type 0
Expected None r old new = (r ≡ Err refusal.NoPlan) × (new ≡ old)
Expected (Some st) r old new = (r ≡ Ok tt) × HasExpected st new
