-- The tally: a run as it is counted from its calls alone.
use Rattle.std.specs.Prelude.{ℕ, ◌+◌, false, if◌then◌else◌, nat_lt, nat_le, List, [], ◌∷◌, length, Some, None, Ok, Err, Option, Result}
use Rattle.std.specs.Option.{option_map}
use Rattle.plans.specs.declared.plan.Plan.{Plan}
use Rattle.redraw.specs.declared.finder.TheConstants.{MOST_OPEN}
use Rattle.redraw.specs.declared.redrawn.Redrawn.{Redrawn}
use Rattle.redraw.specs.declared.redrawn.RedrawFault.{RedrawFault}
use Rattle.redraw.specs.Faults.{refusal_of}
use Rattle.redraw.specs.Redraws.{redrawn}
use Rattle.refusals.specs.declared.Refusal.{Refusal}
use Rattle.refusals.specs.declared.Refusal.TheVariants.{TooManyOpen, TooManyDrafts, NotInHand, Overtaken}
use Rattle.run.specs.Calls.{hold_refusal, held, tick_refusal, ticked, moved_on, fresh_on, ordered}
use Rattle.run.specs.Opens.{open_meetings}
use Rattle.run.specs.State.{State}
use Rattle.dispatch.specs.declared.answers.Answer.{Answer}
use Rattle.dispatch.specs.declared.answers.Answer.TheVariants.{Held, Moved, Drafted, Adopted, Dismissed}
use Rattle.dispatch.specs.declared.dispatcher.HandDraft.{HandDraft}
use Rattle.dispatch.specs.declared.dispatcher.TheConstants.{MOST_DRAFTS}
use Rattle.dispatch.specs.Costing.{Costing}
use Rattle.dispatch.specs.Dispatch.{Dispatch, overtaken, draft_in}
use Rattle.dispatch.specs.Slips.{SlipNumbers}

-- a draft, and the cost it was made with
pub record MadeDraft : Type 0 where
  pub draft : HandDraft
  pub made_with : Costing

-- The state: each shuttle's stop and hold, and who goes first at each meeting. The word of those
-- that moved at the last tick carried out, the count of drafts given, and the draft in hand.
pub record Tally : Type 0 where
  pub state : State
  pub moved : ℕ
  pub drafts : ℕ
  pub hand : Option MadeDraft

-- a call with its arguments: a draft's places are where its search puts the nodes, and an adoption
-- or a dismissal is fed the two numbers of its slip
pub data Call : Type 0 where
  Hold : (shuttle ticks : ℕ) → Call
  Tick : (standing : ℕ) → Call
  Draft : (cost : Costing) (capacity budget : ℕ) (places : List ℕ) → Call
  Adopt : (run draft : ℕ) → Call
  Dismiss : (run draft : ℕ) → Call

-- what comes of a call: it is refused, or carried out, with an answer and the tally after it
pub data Outcome : Type 0 where
  Refused : Refusal → Outcome
  Done : Answer → Tally → Outcome

-- this outcome, unless the call is refused
abbrev pub unless : Option Refusal → Outcome → Outcome
unless None outcome = outcome
unless (Some why) outcome = Refused why

-- a hold or a tick carried out makes the draft in hand overtaken
abbrev pub overtaken_draft : MadeDraft → MadeDraft
overtaken_draft m = record { draft = overtaken m.draft; made_with = m.made_with }

abbrev pub tally_held : ℕ → ℕ → Tally → Tally
tally_held s ticks t =
    record {
      state = held s ticks t.state;
      moved = t.moved;
      drafts = t.drafts;
      hand = option_map overtaken_draft t.hand;
    }

abbrev pub tally_ticked : ℕ → Tally → Tally
tally_ticked standing t =
    record {
      state = ticked standing t.state;
      moved = moved_on standing t.state;
      drafts = t.drafts;
      hand = option_map overtaken_draft t.hand;
    }

-- how many meetings are open
abbrev pub open_count : State → ℕ
open_count st = length (open_meetings st)

-- a draft is refused before any search where too many meetings are open, then where no number is
-- left for it
abbrev pub refusal_before : State → (drafts : ℕ) → Option Refusal
refusal_before st drafts =
    if nat_lt MOST_OPEN (open_count st) then Some TooManyOpen
    else if nat_le MOST_DRAFTS drafts then Some TooManyDrafts
    else None

-- the orders that the search comes to are the next draft, in hand from then on
abbrev pub drafted : Costing → Redrawn → Tally → Tally
drafted cost r t =
    record {
      state = t.state;
      moved = t.moved;
      drafts = t.drafts + 1;
      hand = Some (record {
        draft = record { number = t.drafts + 1; cost = r.cost; orders = r.orders; overtaken = false };
        made_with = cost;
      });
    }

abbrev pub outcome_of_search : Costing → Result Redrawn RedrawFault → Tally → Outcome
outcome_of_search cost (Ok r) t =
    Done (Drafted r.cost r.taken t.state.number (t.drafts + 1)) (drafted cost r t)
outcome_of_search cost (Err fault) t = Refused (refusal_of fault)

abbrev pub draft_outcome : Costing → (capacity budget : ℕ) → List ℕ → Tally → Outcome
draft_outcome cost capacity budget places t =
    unless (refusal_before t.state t.drafts)
    (outcome_of_search cost (redrawn cost.start cost.next t.state capacity budget places) t)

-- with no draft in hand, and this state
abbrev pub without_draft : State → Tally → Tally
without_draft st t = record { state = st; moved = t.moved; drafts = t.drafts; hand = None }

abbrev pub hand_of : Option MadeDraft → Option HandDraft
hand_of = option_map (λ m. m.draft)

-- the draft that a slip is of is put in force, unless it is overtaken
abbrev pub adopted : Result HandDraft Refusal → Tally → Outcome
adopted (Err why) t = Refused why
adopted (Ok d) t =
    if d.overtaken then Refused Overtaken
    else Done (Adopted d.cost) (without_draft (ordered d.orders t.state) t)

-- it is only discarded, overtaken or not
abbrev pub dismissed : Result HandDraft Refusal → Tally → Outcome
dismissed (Err why) t = Refused why
dismissed (Ok d) t = Done Dismissed (without_draft t.state t)

abbrev pub draft_of : SlipNumbers → Tally → Result HandDraft Refusal
draft_of slip t = draft_in slip t.state.number (hand_of t.hand)

abbrev pub outcome : Call → Tally → Outcome
outcome (Hold s ticks) t =
    unless (hold_refusal s ticks t.state) (Done Held (tally_held s ticks t))
outcome (Tick standing) t =
    unless (tick_refusal standing t.state)
    (Done (Moved (moved_on standing t.state)) (tally_ticked standing t))
outcome (Draft cost capacity budget places) t = draft_outcome cost capacity budget places t
outcome (Adopt run draft) t = adopted (draft_of (record { run = run; draft = draft }) t) t
outcome (Dismiss run draft) t = dismissed (draft_of (record { run = run; draft = draft }) t) t

-- a refused call leaves all of the tally alone
abbrev pub tally_after : Outcome → Tally → Tally
tally_after (Refused why) t = t
tally_after (Done answer next) t = next

abbrev pub answer_of : Outcome → Result Answer Refusal
answer_of (Refused why) = Err why
answer_of (Done answer next) = Ok answer

-- the tally after a call, and what the call answers
abbrev pub after : Call → Tally → Tally
after call t = tally_after (outcome call t) t

abbrev pub answer : Call → Tally → Result Answer Refusal
answer call t = answer_of (outcome call t)

-- a tally begins as a fresh run
abbrev pub fresh_tally : Plan → (number : ℕ) → Tally
fresh_tally plan number = record { state = fresh_on number plan; moved = 0; drafts = 0; hand = None }

-- the tally after a list of calls
abbrev pub after_all : List Call → Tally → Tally
after_all [] t = t
after_all (call ∷ calls) t = after_all calls (after call t)

-- the tally of a plan, a run's number and a list of calls
abbrev pub tally : Plan → (number : ℕ) → List Call → Tally
tally plan number calls = after_all calls (fresh_tally plan number)

-- what of a tally is compared with a dispatcher
abbrev pub shown : Tally → Dispatch
shown t = record { state = t.state; drafts = t.drafts; hand = hand_of t.hand }
