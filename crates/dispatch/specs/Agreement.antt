-- When a dispatcher agrees with a tally, and what a single call does.
use Rattle.std.specs.Prelude.{◌≡◌, ℕ, ◌+◌, ◌^◌, ◌≤◌, List, [], Some, None, Ok, Err, Option, Result, IsSomeAnd}
use Rattle.std.specs.Option.{option_map}
use Rattle.lists.specs.Moves.{Follows}
use Rattle.plans.specs.declared.plan.Plan.{Plan}
use Rattle.redraw.specs.Costs.{IsBest}
use Rattle.redraw.specs.Redraws.{drawn}
use Rattle.refusals.specs.declared.Refusal.{Refusal}
use Rattle.refusals.specs.declared.Refusal.TheVariants.{NoPlan}
use Rattle.run.specs.Calls.{Opened, ReadsPlan}
use Rattle.run.specs.State.{State}
use Rattle.search.specs.Reaching.{HasRoom}
use Rattle.dispatch.specs.declared.answers.Answer.{Answer}
use Rattle.dispatch.specs.declared.answers.Answer.TheVariants.{Drafted}
use Rattle.dispatch.specs.declared.dispatcher.Drafted as declared
use Rattle.dispatch.specs.Costing.{Costing, IsCostOf}
use Rattle.dispatch.specs.Dispatch.{Dispatch}
use Rattle.dispatch.specs.Lists.{ListRules}
use Rattle.dispatch.specs.Tally.{Tally, Call, Draft, open_count, refusal_before, after, answer, after_all, fresh_tally, shown}

-- A dispatcher without a plan has no tally: every call is refused (1), and nothing changes.
abbrev pub answer_on : Call → Option Tally → Result Answer Refusal
answer_on call None = Err NoPlan
answer_on call (Some t) = answer call t

abbrev pub after_on : Call → Option Tally → Option Tally
after_on call = option_map (after call)

-- the state, the count of drafts, and the draft in hand are those of the tally
abbrev pub Agrees : Option Dispatch → Option Tally → Type 0
Agrees d o = d ≡ option_map shown o

-- A call does as the tally does: started in agreement with a tally, it gives the tally's answer,
-- and ends in agreement with the tally after the call.
abbrev pub Does : Call → Result Answer Refusal → Option Dispatch → Option Dispatch → Type 0
Does call r old new =
    (o : Option Tally) → Agrees old o → (r ≡ answer_on call o) × Agrees new (after_on call o)

-- answers as the tally gives them
abbrev pub told : {X : Type 0} → (X → Answer) → Result X Refusal → Result Answer Refusal
told f (Ok x) = Ok (f x)
told f (Err why) = Err why

abbrev pub drafted_told : declared.Drafted → Answer
drafted_told d = Drafted d.cost d.taken d.slip.run d.slip.draft

module _ {L : Type 0} (rules : ListRules L) where
  -- The search of a draft: the list goes by its moves, and is empty at the end.
  pub record IsSearched (cost : Costing) (budget : ℕ) (places : List ℕ) (st : State) (old new : L) : Type 0 where
    pub leads :
        Follows rules.nodes rules.moves old
        (drawn cost.start cost.next st (rules.capacity old) budget places).moves new
    pub empty : rules.nodes new ≡ []

  -- What a draft leaves in its waiting list: refused before the search, it leaves the list as it
  -- is.
  abbrev pub ListLeft : Option Refusal → Costing → (budget : ℕ) → List ℕ → State → L → L → Type 0
  ListLeft None cost budget places st old new = IsSearched cost budget places st old new
  ListLeft (Some why) cost budget places st old new = new ≡ old

  abbrev pub LeavesList : Costing → (budget : ℕ) → List ℕ → Option Dispatch → L → L → Type 0
  LeavesList cost budget places None old new = new ≡ old
  LeavesList cost budget places (Some d) old new =
      ListLeft (refusal_before d.state d.drafts) cost budget places d.state old new

  -- A draft does as the tally does, at some places that the list's rule allows from the list handed
  -- in to the list handed back.
  pub record Drafts
      (start : ℕ) (next : ℕ → ℕ → ℕ → ℕ) (budget : ℕ) (r : Result Answer Refusal)
      (list list_after : L) (old new : Option Dispatch)
      : Type 0 where
    pub cost : Costing
    pub is : IsCostOf start next cost
    pub places : List ℕ
    pub does : Does (Draft cost (rules.capacity list) budget places) r old new
    pub leaves : LeavesList cost budget places old list list_after

-- The draft in hand costs so much and is lawful, and no lawful orders cost less.
abbrev pub HandIsBest : (start : ℕ) → (next : ℕ → ℕ → ℕ → ℕ) → (cost : ℕ) → Option Dispatch → Type 0
HandIsBest start next cost None = ⊥
HandIsBest start next cost (Some d) =
    IsSomeAnd d.hand (λ h. (h.cost ≡ cost) × IsBest start next d.state h.orders cost)

-- A draft that is not refused before its search finds orders, where list and budget are large
-- enough for as many open meetings.
abbrev pub SearchSuffices : {L : Type 0} → ListRules L → (budget : ℕ) → L → Option Dispatch → Type 0
SearchSuffices rules budget list None = ⊥
SearchSuffices rules budget list (Some d) =
    (refusal_before d.state d.drafts ≡ None)
    × HasRoom (open_count d.state) rules.moves (rules.capacity list)
    × (2 ^ (open_count d.state + 1) ≤ budget + 1)

-- Opening: the dispatcher agrees with the fresh tally of the plan that the bytes are the file of;
-- or the opening is refused as a run's is, and all stays.
abbrev pub OpensFresh :
    Result (Unit {0}) Refusal → (number : ℕ) → List ℕ → Option Dispatch → Option Dispatch → Type 0
OpensFresh (Ok x) number bs old new =
    (old ≡ None) × ((plan : Plan) × ReadsPlan (Ok plan) bs × Agrees new (Some (fresh_tally plan number)))
OpensFresh (Err why) number bs old new =
    Opened (Err why) number bs (option_map (λ d. d.state) old) (option_map (λ d. d.state) new)
    × (new ≡ old)
