-- The number of each refusal, and the values that it gives.
use Rattle.std.specs.Prelude.{[], ◌∷◌, None, Option}
use Rattle.plans.specs.Refusals.{NumberAndValues, gives, plan_refusal}
use Rattle.refusals.specs.declared.Refusal.{Refusal}
use Rattle.refusals.specs.declared.Refusal.TheVariants.{NoPlan, HasPlan, Plan, Memory, NoShuttle, AtLastStop, LongHold}
use Rattle.refusals.specs.declared.Refusal.TheVariants.{TooManyOpen, TooManyDrafts, ListFull, BudgetSpent, NotInHand, Overtaken}
use Rattle.refusals.specs.declared.Refusal.TheVariants.{ShortBuffer, BadLine}

-- A plan that is refused has the numbers 3 to 6. Want of memory has none. A search that is stopped gives the nodes that it took.
abbrev pub refusal : Refusal → Option NumberAndValues
refusal NoPlan = gives 1 []
refusal HasPlan = gives 2 []
refusal (Plan fault) = plan_refusal fault
refusal Memory = None
refusal NoShuttle = gives 7 []
refusal AtLastStop = gives 8 []
refusal LongHold = gives 9 []
refusal TooManyOpen = gives 10 []
refusal TooManyDrafts = gives 11 []
refusal (ListFull taken) = gives 12 (taken ∷ [])
refusal (BudgetSpent taken) = gives 13 (taken ∷ [])
refusal NotInHand = gives 14 []
refusal Overtaken = gives 15 []
refusal ShortBuffer = gives 16 []
refusal BadLine = gives 17 []
