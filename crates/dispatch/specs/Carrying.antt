-- Whole lists of calls: which calls the entries make, and what is seen after each.
use Rattle.std.specs.Prelude.{◌≡◌, ◌⊎◌, ℕ, List, [], ◌∷◌, ◌++◌, Some, None, Option, Result}
use Rattle.std.specs.Option.{option_map}
use Rattle.plans.specs.declared.plan.Plan.{Plan}
use Rattle.plans.specs.Kept.{IsKept}
use Rattle.refusals.specs.declared.Refusal.{Refusal}
use Rattle.dispatch.specs.declared.answers.Answer.{Answer}
use Rattle.dispatch.specs.declared.calls.Entry.{Entry}
use Rattle.dispatch.specs.declared.calls.Entry.TheVariants as entry
use Rattle.dispatch.specs.Agreement.{Agrees, Does, answer_on, after_on, LeavesList}
use Rattle.dispatch.specs.Costing.{Costing, IsCostOf}
use Rattle.dispatch.specs.Dispatch.{Dispatch}
use Rattle.dispatch.specs.Law.{Stands}
use Rattle.dispatch.specs.Lists.{CostRules, ListRules}
use Rattle.dispatch.specs.Pockets.{Pockets, IsEmptyAt, HasSlipAt, without_slip, with_slip}
use Rattle.dispatch.specs.Slips.{SlipNumbers}
use Rattle.dispatch.specs.Tally.{Tally, Call, Hold, Tick, Draft, Adopt, Dismiss, tally, shown}

-- the tally after a list of calls; without a plan there is none
abbrev pub after_list : List Call → Option Tally → Option Tally
after_list [] o = o
after_list (call ∷ calls) o = after_list calls (after_on call o)

module _ {C L : Type 0} (costs : CostRules C) (lists : ListRules L) where
  -- The call of a draft's entry: its pocket was empty, its list is handed back as the search leaves
  -- it, and its slip is in the pocket if it is carried out.
  pub record MakesDraft
      (cost : C) (list : L) (budget p : ℕ) (d : Option Dispatch) (ps : Pockets)
      (call : Call) (r : Result Answer Refusal) (qs : Pockets) (back : Entry C L)
      : Type 0 where
    pub empty : IsEmptyAt ps p
    pub made_with : Costing
    pub is : IsCostOf (costs.start cost) (costs.next cost) made_with
    pub places : List ℕ
    pub calls : call ≡ Draft made_with (lists.capacity list) budget places
    pub slip : qs ≡ with_slip r p ps
    pub list_after : L
    pub leaves : LeavesList lists made_with budget places d list list_after
    pub size : lists.capacity list_after ≡ lists.capacity list
    pub handed_back : back ≡ entry.Draft cost list_after budget p

  -- The call of an entry that spends a slip: the slip is out of its pocket, and the entry is handed
  -- back as it was.
  pub record Spends
      (e : Entry C L) (p : ℕ) (named : SlipNumbers → Call) (ps : Pockets)
      (call : Call) (qs : Pockets) (back : Entry C L)
      : Type 0 where
    pub slip : SlipNumbers
    pub has : HasSlipAt ps p slip
    pub calls : call ≡ named slip
    pub taken : qs ≡ without_slip ps p
    pub handed_back : back ≡ e

  -- The call that an entry makes, by the dispatcher before it and its answer: which it is, the
  -- pockets after it, and the entry as it is handed back.
  abbrev pub Makes :
      Entry C L → Option Dispatch → Pockets
      → Call → Result Answer Refusal → Pockets → Entry C L → Type 0
  Makes (entry.Hold s ticks) d ps call r qs back =
      (call ≡ Hold s ticks) × (qs ≡ ps) × (back ≡ entry.Hold s ticks)
  Makes (entry.Tick standing) d ps call r qs back =
      (call ≡ Tick standing) × (qs ≡ ps) × (back ≡ entry.Tick standing)
  Makes (entry.Draft cost list budget p) d ps call r qs back =
      MakesDraft cost list budget p d ps call r qs back
  Makes (entry.Adopt p) d ps call r qs back =
      Spends (entry.Adopt p) p (λ slip. Adopt slip.run slip.draft) ps call qs back
  Makes (entry.Dismiss p) d ps call r qs back =
      Spends (entry.Dismiss p) p (λ slip. Dismiss slip.run slip.draft) ps call qs back

  -- An entry makes no call where there is no empty pocket for a draft's slip, or no slip in the
  -- pocket of an adoption or a dismissal.
  abbrev pub IsIdle : Entry C L → Pockets → Type 0
  IsIdle (entry.Hold s ticks) ps = ⊥
  IsIdle (entry.Tick standing) ps = ⊥
  IsIdle (entry.Draft cost list budget p) ps = IsEmptyAt ps p → ⊥
  IsIdle (entry.Adopt p) ps = (slip : SlipNumbers) → HasSlipAt ps p slip → ⊥
  IsIdle (entry.Dismiss p) ps = (slip : SlipNumbers) → HasSlipAt ps p slip → ⊥

  -- an entry that makes a call with this answer
  pub record Calls
      (e : Entry C L) (ps : Pockets) (old : Option Dispatch) (r : Result Answer Refusal)
      (back : Entry C L) (qs : Pockets) (new : Option Dispatch)
      : Type 0 where
    pub call : Call
    pub makes : Makes e old ps call r qs back
    pub does : Does call r old new

  -- one that makes no call, so that all stays
  pub record Stays
      (e : Entry C L) (ps : Pockets) (old : Option Dispatch)
      (back : Entry C L) (qs : Pockets) (new : Option Dispatch)
      : Type 0 where
    pub idle : IsIdle e ps
    pub entry_stays : back ≡ e
    pub pockets : qs ≡ ps
    pub dispatcher : new ≡ old

  abbrev pub MayCall :
      Entry C L → Pockets → Option Dispatch → Option (Result Answer Refusal)
      → Entry C L → Pockets → Option Dispatch → Type 0
  MayCall e ps old None back qs new = Stays e ps old back qs new
  MayCall e ps old (Some r) back qs new = Calls e ps old r back qs new

  module _ {W : Type 0} (saw : W → Result Answer Refusal → Option Dispatch → W → Type 0) where
    -- The entries make these calls, one after another: each gives the tally's answer, and the
    -- watcher is shown after each the answer and what the tally then shows.
    abbrev pub Carried :
        List (Entry C L) → Option Tally → Pockets → W
        → List Call → List (Entry C L) → Pockets → W → Type 0
    Carried [] o ps w calls back qs v = (calls ≡ []) × (back ≡ []) × (qs ≡ ps) × (v ≡ w)
    Carried (e ∷ es) o ps w calls back qs v =
        (f : Entry C L) × (fs : List (Entry C L)) × (back ≡ f ∷ fs)
        × ((IsIdle e ps × (f ≡ e) × Carried es o ps w calls fs qs v)
        ⊎ ((call : Call) × (rest : List Call) × (calls ≡ call ∷ rest) × ((ms : Pockets) × (u : W)
        × Makes e (option_map shown o) ps call (answer_on call o) ms f
        × saw w (answer_on call o) (option_map shown (after_on call o)) u
        × Carried es (after_on call o) ms u rest fs qs v)))

    -- Started in agreement with a tally or without a plan, the entries are carried out as the tally
    -- says, call by call, and end in agreement with the tally after them.
    pub record CarriesOn
        (es : List (Entry C L)) (ps : Pockets) (w : W) (o : Option Tally)
        (back : List (Entry C L)) (qs : Pockets) (v : W) (new : Option Dispatch)
        : Type 0 where
      pub calls : List Call
      pub carried : Carried es o ps w calls back qs v
      pub agrees : Agrees new (after_list calls o)

    -- The same from the tally of a list of calls, and the law where the entries stop.
    pub record CarriesLawfully
        (es : List (Entry C L)) (ps : Pockets) (w : W) (plan : Plan) (number : ℕ) (before : List Call)
        (back : List (Entry C L)) (qs : Pockets) (v : W) (new : Option Dispatch)
        : Type 0 where
      pub calls : List Call
      pub carried : Carried es (Some (tally plan number before)) ps w calls back qs v
      pub agrees : Agrees new (Some (tally plan number (before ++ calls)))
      pub stands : Stands plan number (before ++ calls)

    -- A whole list of calls, from any tally, from none, and from that of a list of calls before it.
    pub record CarriesAll
        (es : List (Entry C L)) (ps : Pockets) (w : W) (old : Option Dispatch)
        (back : List (Entry C L)) (qs : Pockets) (v : W) (new : Option Dispatch)
        : Type 0 where
      pub tallied : (o : Option Tally) → Agrees old o → CarriesOn es ps w o back qs v new
      pub lawful :
          (plan : Plan) (number : ℕ) (before : List Call)
          → IsKept plan → Agrees old (Some (tally plan number before))
          → CarriesLawfully es ps w plan number before back qs v new
