-- The refusals of a plan: their numbers, and the values that they give.
use Rattle.std.specs.Prelude.{◌≡◌, ℕ, List, [], ◌∷◌, Some, None, Ok, Err, Option, Result, ◌⊎◌}
use Rattle.std.specs.Option.{option_map}
use Rattle.files.specs.declared.layout.FileFault.TheVariants.{Torn}
use Rattle.files.specs.declared.layout.FileFault.TheVariants as file
use Rattle.files.specs.Rules.{offender, offence}
use Rattle.meetings.specs.declared.clash.Clash.{Clash}
use Rattle.meetings.specs.declared.meet.MeetingFault.TheVariants as meeting
use Rattle.plans.specs.declared.plan.opening.PlanFault.{PlanFault}
use Rattle.plans.specs.declared.plan.opening.PlanFault.TheVariants.{File, Path, Meetings}

-- a refusal's number, and the values that it gives
pub record NumberAndValues : Type 0 where
  pub number : ℕ
  pub values : List ℕ

abbrev pub gives : ℕ → List ℕ → Option NumberAndValues
gives number values = Some (record { number = number; values = values })

-- the stop of the lower shuttle, and that of the other
abbrev pub clash_values : Clash → List ℕ
clash_values c = c.lower.shuttle ∷ c.lower.stop ∷ c.other.shuttle ∷ c.other.stop ∷ []

-- want of memory has no number
abbrev pub plan_refusal : PlanFault → Option NumberAndValues
plan_refusal (File (Torn place)) = gives 3 (place ∷ [])
plan_refusal (File file.Memory) = None
plan_refusal (Path f) = gives 4 (offender f ∷ offence f ∷ [])
plan_refusal (Meetings (meeting.Collision c)) = gives 5 (clash_values c)
plan_refusal (Meetings meeting.TooMany) = gives 6 []
plan_refusal (Meetings meeting.Memory) = None

abbrev pub number_of : Option NumberAndValues → Option ℕ
number_of r = option_map (λ (n : NumberAndValues). n.number) r

abbrev pub values_of : Option NumberAndValues → List ℕ
values_of None = []
values_of (Some n) = n.values

-- A call is refused with this number and these values, unless memory was wanting.
abbrev pub Refused : {X E : Type 0} → (E → Option NumberAndValues) → Result X E → ℕ → List ℕ → Type 0
Refused refusal (Ok x) number values = ⊥
Refused refusal (Err e) number values = (refusal e ≡ gives number values) ⊎ (refusal e ≡ None)
