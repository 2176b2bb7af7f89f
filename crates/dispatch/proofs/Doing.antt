-- The calls on a dispatcher do as the tally does.
use Rattle.std.proofs.Common.{◌≡◌, ℕ, ◌+◌, ◌<◌, ◌≤◌, Bool, true, false, if◌then◌else◌, ltb, leb, List, [], Some, None, Ok, Err, Option, Result, IsErrAnd, refl, sym, ap, ◌∙◌, subst, inl, inr}
use Rattle.std.specs.Option.{option_map}
use Rattle.std.proofs.lemmas.Bool.{cases_lt, le-ltb, lt-ltb, le-leb, lt-leb}
use Rattle.std.proofs.lemmas.Option.{same_Some}
use Rattle.redraw.specs.declared.finder.TheConstants.{MOST_OPEN}
use Rattle.redraw.specs.declared.redrawn.Redrawn.{Redrawn}
use Rattle.redraw.specs.declared.redrawn.RedrawFault.{RedrawFault}
use Rattle.costs.specs.Laws.{IsCost}
use Rattle.redraw.specs.Faults.{refusal_of}
use Rattle.redraw.specs.Redraws.{redrawn, Redraws}
use Rattle.refusals.specs.declared.Refusal.{Refusal}
use Rattle.refusals.specs.declared.Refusal.TheVariants.{NoPlan, TooManyOpen, TooManyDrafts}
use Rattle.run.specs.Calls.{Took, TakesTick, tick_refusal, ticked, moved_on}
use Rattle.run.specs.State.{State}
use Rattle.dispatch.specs.declared.answers.Answer.{Answer}
use Rattle.dispatch.specs.declared.answers.Answer.TheVariants.{Moved, Drafted}
use Rattle.dispatch.specs.declared.dispatcher.HandDraft.{HandDraft}
use Rattle.dispatch.specs.declared.dispatcher.TheConstants.{MOST_DRAFTS}
use Rattle.dispatch.specs.Agreement.{Does, ListLeft, Drafts, told}
use Rattle.dispatch.specs.Costing.{Costing}
use Rattle.dispatch.specs.Dispatch.{Dispatch, dispatch_of, overtaken}
use Rattle.dispatch.specs.Lists.{ListRules}
use Rattle.dispatch.specs.Tally.{MadeDraft, Tally, Tick, Draft, Outcome, Done, unless, overtaken_draft, tally_ticked, open_count, refusal_before, outcome_of_search, hand_of, tally_after, answer_of, shown}

-- a draft in hand is overtaken with the cost it was made with, or without
overtaken_hand : (o : Option MadeDraft) → option_map overtaken (hand_of o) ≡ hand_of (option_map overtaken_draft o)
overtaken_hand None = refl
overtaken_hand (Some m) = refl

module _ (w moved : ℕ) where
  ticked_by : (t : Tally) (run : Option State) (why : Option Refusal) → Took why (moved_on w t.state) (Some (ticked w t.state)) (Ok moved) (Some t.state) run
      → (let o = unless why (Done (Moved (moved_on w t.state)) (tally_ticked w t)) in
      (Ok (Moved moved) ≡ answer_of o) × (dispatch_of run t.drafts (option_map overtaken (hand_of t.hand)) ≡ Some (shown (tally_after o t))))
  ticked_by t run None took =
      let is : Ok moved ≡ (let r : Result ℕ Refusal = Ok (moved_on w t.state) in r) = took.result in
      let same : moved ≡ moved_on w t.state = cc in (
        ap (λ (n : ℕ). Ok (Moved n)) same,
        ap (λ (o : Option State). dispatch_of o t.drafts (option_map overtaken (hand_of t.hand))) took.state
            ∙ ap (λ (h : Option HandDraft). Some (let d : Dispatch = record { state = ticked w t.state; drafts = t.drafts; hand = h } in d)) (overtaken_hand t.hand),
      )
  ticked_by t run (Some why) took = let bad : Ok moved ≡ (let r : Result ℕ Refusal = Err why in r) = took.result in absurd (cc)

  pub tick_does : (drafts : ℕ) (hand : Option HandDraft) (run after : Option State) → TakesTick w (Ok moved) run after
      → Does (Tick w) (Ok (Moved moved)) (dispatch_of run drafts hand) (dispatch_of after drafts (option_map overtaken hand))
  tick_does drafts hand None after took o a = let bad : Ok moved ≡ (let r : Result ℕ Refusal = Err NoPlan in r) = took.result in absurd (cc)
  tick_does drafts hand (Some st) after took None a = absurd (cc)
  tick_does drafts hand (Some st) after took (Some t) a =
      let old : Dispatch = record { state = st; drafts = drafts; hand = hand } in
      let is : old ≡ shown t = same_Some old (shown t) a in
      let taken : Took (tick_refusal w t.state) (moved_on w t.state) (Some (ticked w t.state)) (Ok moved) (Some t.state) after =
      subst (λ (d : Dispatch). Took (tick_refusal w d.state) (moved_on w d.state) (Some (ticked w d.state)) (Ok moved) (Some d.state) after) is took in
      let by = ticked_by t after (tick_refusal w t.state) taken in
      (by.0, ap (λ (d : Dispatch). dispatch_of after d.drafts (option_map overtaken d.hand)) is ∙ by.1)

-- the answer of a call that ended with an error
pub err_told : {X : Type 0} (f : X → Answer) (r : Result X Refusal) (why : Refusal) → IsErrAnd r (λ e. e ≡ why) → told f r ≡ Err why
err_told f (Ok x) why h = absurd h
err_told f (Err e) why h = ap Err h

-- why a draft is refused before any search, or that it is not
module _ (st : State) (drafts : ℕ) where
  abbrev refusal_by : (many given : Bool) → Option Refusal
  refusal_by many given = if many then Some TooManyOpen else if given then Some TooManyDrafts else None

  pub many_open : (open_count st ≤ MOST_OPEN → ⊥) → refusal_before st drafts ≡ Some TooManyOpen
  many_open many = elim (cases_lt MOST_OPEN (open_count st)) [
    | inl lt ↦ ap (λ (b : Bool). refusal_by b (leb MOST_DRAFTS drafts)) (lt-ltb MOST_OPEN (open_count st) lt)
    | inr le ↦ absurd (many le)
  ]

  few_open : open_count st ≤ MOST_OPEN → refusal_before st drafts ≡ refusal_by false (leb MOST_DRAFTS drafts)
  few_open few = ap (λ (b : Bool). refusal_by b (leb MOST_DRAFTS drafts)) (le-ltb MOST_OPEN (open_count st) few)

  pub all_given : open_count st ≤ MOST_OPEN → MOST_DRAFTS ≤ drafts → refusal_before st drafts ≡ Some TooManyDrafts
  all_given few le = few_open few ∙ ap (λ (b : Bool). refusal_by false b) (le-leb MOST_DRAFTS drafts le)

  pub may_search : open_count st ≤ MOST_OPEN → drafts < MOST_DRAFTS → refusal_before st drafts ≡ None
  may_search few lt = few_open few ∙ ap (λ (b : Bool). refusal_by false b) (lt-leb MOST_DRAFTS drafts lt)

-- what a draft answers by what its search comes to, and what is there after it
abbrev pub answer_by : Dispatch → Result Redrawn RedrawFault → Result Answer Refusal
answer_by d (Ok r) = Ok (Drafted r.cost r.taken d.state.number (d.drafts + 1))
answer_by d (Err fault) = Err (refusal_of fault)

abbrev pub dispatch_by : Dispatch → Result Redrawn RedrawFault → Dispatch
dispatch_by d (Ok r) = record {
  state = d.state;
  drafts = d.drafts + 1;
  hand = Some (record { number = d.drafts + 1; cost = r.cost; orders = r.orders; overtaken = false });
}
dispatch_by d (Err fault) = d

module _ (cost : Costing) (capacity budget : ℕ) (places : List ℕ) (d : Dispatch) where
  abbrev search : State → Result Redrawn RedrawFault
  search st = redrawn cost.start cost.next st capacity budget places

  refused_does : (why : Refusal) → refusal_before d.state d.drafts ≡ Some why → Does (Draft cost capacity budget places) (Err why) (Some d) (Some d)
  refused_does why e None a = absurd (cc)
  refused_does why e (Some t) a =
      let is : d ≡ shown t = same_Some d (shown t) a in
      let before : refusal_before t.state t.drafts ≡ Some why = subst (λ (x : Dispatch). refusal_before x.state x.drafts ≡ Some why) is e in
      let found = outcome_of_search cost (search t.state) t in (
        sym (ap (λ (w : Option Refusal). answer_of (unless w found)) before),
        a ∙ sym (ap (λ (w : Option Refusal). Some (shown (tally_after (unless w found) t))) before),
      )

  shows_search : (t : Tally) (r : Result Redrawn RedrawFault) → (answer_by (shown t) r ≡ answer_of (outcome_of_search cost r t)) × (dispatch_by (shown t) r ≡ shown (tally_after (outcome_of_search cost r t) t))
  shows_search t (Ok r) = (refl, refl)
  shows_search t (Err fault) = (refl, refl)

  searched_does : (r : Result Redrawn RedrawFault) → refusal_before d.state d.drafts ≡ None → search d.state ≡ r
      → Does (Draft cost capacity budget places) (answer_by d r) (Some d) (Some (dispatch_by d r))
  searched_does r none e None a = absurd (cc)
  searched_does r none e (Some t) a =
      let is : d ≡ shown t = same_Some d (shown t) a in
      let before : refusal_before t.state t.drafts ≡ None = subst (λ (x : Dispatch). refusal_before x.state x.drafts ≡ None) is none in
      let found : search t.state ≡ r = subst (λ (x : Dispatch). search x.state ≡ r) is e in
      let comes : outcome_of_search cost r t ≡ unless (refusal_before t.state t.drafts) (outcome_of_search cost (search t.state) t) =
      ap (λ (x : Result Redrawn RedrawFault). outcome_of_search cost x t) (sym found) ∙ ap (λ (w : Option Refusal). unless w (outcome_of_search cost (search t.state) t)) (sym before) in
      let by = shows_search t r in (
        ap (λ (x : Dispatch). answer_by x r) is ∙ by.0 ∙ ap answer_of comes,
        ap (λ (x : Dispatch). Some (dispatch_by x r)) is ∙ ap (λ (x : Dispatch). Some x) by.1 ∙ ap (λ (o : Outcome). Some (shown (tally_after o t))) comes,
      )

module _ {L : Type 0} (rules : ListRules L) (start : ℕ) (next : ℕ → ℕ → ℕ → ℕ) (is : IsCost start next) (budget : ℕ) (list : L) where
  abbrev cost : Costing
  cost = record { start = start; next = next; is = is }

  pub draft_unplanned : (o : Option Dispatch) → o ≡ None → Drafts rules start next budget (Err NoPlan) list list o o
  draft_unplanned None e = record {
    cost = cost;
    is = record { starts = refl; goes_on = refl };
    places = [];
    does = unplanned;
    leaves = refl;
  }
    where
      unplanned : Does (Draft cost (rules.capacity list) budget []) (Err NoPlan) None None
      unplanned None a = (refl, refl)
      unplanned (Some t) a = absurd (cc)
  draft_unplanned (Some d) e = absurd (cc)

  pub draft_refused : (d : Dispatch) (why : Refusal) → refusal_before d.state d.drafts ≡ Some why → Drafts rules start next budget (Err why) list list (Some d) (Some d)
  draft_refused d why e = record {
    cost = cost;
    is = record { starts = refl; goes_on = refl };
    places = [];
    does = refused_does cost (rules.capacity list) budget [] d why e;
    leaves = subst (λ (w : Option Refusal). ListLeft rules w cost budget [] d.state list list) (sym e) refl;
  }

  pub draft_searched : (d : Dispatch) (r : Result Redrawn RedrawFault) (list_after : L) → refusal_before d.state d.drafts ≡ None
      → Redraws start next d.state (rules.capacity list) budget rules.nodes rules.moves r list list_after → rules.nodes list_after ≡ []
      → Drafts rules start next budget (answer_by d r) list list_after (Some d) (Some (dispatch_by d r))
  draft_searched d r list_after none redraws empty = record {
    cost = cost;
    is = record { starts = refl; goes_on = refl };
    places = redraws.places;
    does = searched_does cost (rules.capacity list) budget redraws.places d r none (sym redraws.answers);
    leaves = subst (λ (w : Option Refusal). ListLeft rules w cost budget redraws.places d.state list list_after) (sym none) (record { leads = redraws.leads; empty = empty });
  }
