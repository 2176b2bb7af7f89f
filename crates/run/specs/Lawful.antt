-- Passing orders that may be put in force.
use Rattle.std.specs.Prelude.{◌≡◌, ℕ, ◌<◌, List, length, slice_index_or, Some, None, Ok, Err, Option, Result, IsSome, IsFalse}
use Rattle.std.specs.Option.{option_map}
use Rattle.meetings.specs.declared.meet.First.{First}
use Rattle.meetings.specs.declared.meet.First.TheVariants.{Lower}
use Rattle.traffic.specs.Plans.{named}
use Rattle.traffic.specs.Ticks.{entry_ticks}
use Rattle.run.specs.declared.run.calls.Unlawful.{Unlawful}
use Rattle.run.specs.Calls.{ordered}
use Rattle.run.specs.Opens.{open_at}
use Rattle.run.specs.State.{State, meetings_on, count_on, scene_under}

-- who goes first at a meeting
abbrev pub first_at : List First → ℕ → First
first_at fs j = slice_index_or fs j Lower

-- orders that agree with those in force wherever a meeting is not open
abbrev pub Agrees : State → List First → Type 0
Agrees st orders = (j : ℕ) → j < length orders → IsFalse (open_at st j) → first_at orders j ≡ first_at st.firsts j

-- Passing orders are lawful when they name a first at each meeting, agree with those in force wherever a meeting is not open, and close no ring.
pub record LawfulFor (st : State) (orders : List First) : Type 0 where
  pub count : length orders ≡ length (meetings_on st)
  pub agree : Agrees st orders
  pub no_ring : IsSome (entry_ticks (scene_under st (named orders)) (count_on st))

-- none are without a plan
abbrev pub Lawful : List First → Option State → Type 0
Lawful orders None = ⊥
Lawful orders (Some st) = LawfulFor st orders

-- lawful orders are put in force, and unlawful ones change nothing
abbrev pub PutInForce : List First → Result (Unit {0}) Unlawful → Option State → Option State → Type 0
PutInForce orders (Ok x) old new = Lawful orders old × (new ≡ option_map (ordered orders) old)
PutInForce orders (Err why) old new = (Lawful orders old → ⊥) × (new ≡ old)
