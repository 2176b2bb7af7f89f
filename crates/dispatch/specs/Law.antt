-- The law over whole lists of calls: no collision, arrival, and the least cost. Each is read from
-- the tally.
use Rattle.std.specs.Prelude.{◌≡◌, ℕ, ◌+◌, ◌<◌, ◌≤◌, Bool, false, if◌then◌else◌, ◌==◌, List, [], ◌∷◌, ◌++◌, length, Some, Ok, IsErr}
use Rattle.meetings.specs.declared.meet.First.{First}
use Rattle.plans.specs.declared.plan.Plan.{Plan}
use Rattle.plans.specs.Kept.{IsKept}
use Rattle.redraw.specs.Costs.{cost_of}
use Rattle.run.specs.Executions.{IsHome}
use Rattle.run.specs.Guards.{IsSafe, left_on}
use Rattle.run.specs.Lawful.{LawfulFor}
use Rattle.run.specs.State.{State, paths_on}
use Rattle.dispatch.specs.declared.answers.Answer.TheVariants.{Adopted}
use Rattle.dispatch.specs.Costing.{Costing}
use Rattle.dispatch.specs.Tally.{Tally, MadeDraft, Call, Hold, Tick, Draft, Adopt, Dismiss, after, answer, after_all, tally}

-- an undisturbed tick names no shuttle that stands
abbrev pub is_undisturbed : Call → Bool
is_undisturbed (Tick standing) = standing == 0
is_undisturbed (Hold s ticks) = false
is_undisturbed (Draft cost capacity budget places) = false
is_undisturbed (Adopt run draft) = false
is_undisturbed (Dismiss run draft) = false

-- how many of them there are
abbrev pub undisturbed : List Call → ℕ
undisturbed [] = 0
undisturbed (call ∷ calls) = (if is_undisturbed call then 1 else 0) + undisturbed calls

-- not a hold that is carried out
abbrev pub IsNoHold : Call → Tally → Type 0
IsNoHold (Hold s ticks) t = IsErr (answer (Hold s ticks) t)
IsNoHold (Tick standing) t = Unit {0}
IsNoHold (Draft cost capacity budget places) t = Unit {0}
IsNoHold (Adopt run draft) t = Unit {0}
IsNoHold (Dismiss run draft) t = Unit {0}

-- no hold is carried out
abbrev pub NoneHeld : List Call → Tally → Type 0
NoneHeld [] t = Unit {0}
NoneHeld (call ∷ calls) t = IsNoHold call t × NoneHeld calls (after call t)

-- every shuttle is at its last stop
abbrev pub AllHome : State → Type 0
AllHome st = (s : ℕ) → s < length (paths_on st) → IsHome st s

-- Once as many undisturbed ticks are carried out as there are unentered stops and hold ticks left,
-- and no hold meanwhile, every shuttle is at its last stop.
abbrev pub Arrives : Tally → Type 0
Arrives t =
    (more : List Call) → NoneHeld more t → left_on t.state ≤ undisturbed more
    → AllHome (after_all more t).state

-- The orders in force cost so much, and every lawful set of orders costs at least as much.
pub record IsLeast (cost : Costing) (st : State) (total : ℕ) : Type 0 where
  pub costs : cost_of cost.start cost.next st st.firsts ≡ Some total
  pub least :
      (others : List First) (more : ℕ) → LawfulFor st others → cost_of cost.start cost.next st others ≡ Some more
      → total ≤ more

-- A list of calls that ends with an adoption carried out, from the tally before it: the answer is
-- least, by the cost that the draft in hand was made with.
pub record AdoptsLeast (before after : Tally) (total : ℕ) : Type 0 where
  pub made : MadeDraft
  pub in_hand : before.hand ≡ Some made
  pub least : IsLeast made.made_with after.state total

-- What holds where a list of calls stops.
pub record Stands (plan : Plan) (number : ℕ) (calls : List Call) : Type 0 where
  -- There was no collision, and tables are served in plan order.
  pub safe : IsSafe (tally plan number calls).moved (tally plan number calls).state
  -- Everybody gets home, whatever else is called meanwhile.
  pub arrives : Arrives (tally plan number calls)
  -- Just after an adoption, no lawful orders cost less than those in force.
  pub least :
      (before : List Call) (run draft total : ℕ) → calls ≡ before ++ Adopt run draft ∷ []
      → answer (Adopt run draft) (tally plan number before) ≡ Ok (Adopted total)
      → AdoptsLeast (tally plan number before) (tally plan number calls) total

-- It holds of every plan that is taken, after every list of calls.
abbrev pub TalliesStand : Type 0
TalliesStand = (plan : Plan) (number : ℕ) (calls : List Call) → IsKept plan → Stands plan number calls
