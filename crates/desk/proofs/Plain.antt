-- The replies to calls show no sheet and name no short buffer.
use Rattle.std.proofs.Common.{◌≡◌, ℕ, Bool, true, false, if◌then◌else◌, ltb, leb, List, Some, None, Ok, Err, Option, Result, IsSomeAnd, IsSome, [], ◌∷◌, refl, ap, subst, arith}
use Rattle.std.specs.Option.{option_map}
use Rattle.floor.specs.declared.floor.calls.FloorFault.{FloorFault}
use Rattle.floor.specs.declared.floor.calls.FloorFault.TheVariants as floor
use Rattle.floor.specs.Calls.{fault_of_hold, tick_fault}
use Rattle.lines.specs.declared.replies.Reply.{Reply}
use Rattle.lines.specs.declared.replies.Reply.TheVariants as reply
use Rattle.redraw.specs.declared.finder.TheConstants.{MOST_OPEN}
use Rattle.redraw.specs.declared.redrawn.Redrawn.{Redrawn}
use Rattle.redraw.specs.declared.redrawn.RedrawFault.{RedrawFault}
use Rattle.redraw.specs.declared.redrawn.RedrawFault.TheVariants as fault
use Rattle.redraw.specs.Redraws.{redrawn}
use Rattle.refusals.specs.declared.Refusal.{Refusal}
use Rattle.refusals.specs.declared.Refusal.TheVariants.{TooManyOpen, TooManyDrafts, NotInHand, Overtaken}
use Rattle.floor.specs.Refused.{from_floor}
use Rattle.run.specs.Calls.{moved_on}
use Rattle.run.specs.State.{paths_on}
use Rattle.dispatch.specs.declared.answers.Answer.{Answer}
use Rattle.dispatch.specs.declared.answers.Answer.TheVariants.{Held, Moved, Drafted, Adopted, Dismissed}
use Rattle.dispatch.specs.declared.dispatcher.HandDraft.{HandDraft}
use Rattle.dispatch.specs.declared.dispatcher.TheConstants.{MOST_DRAFTS}
use Rattle.dispatch.specs.Agreement.{answer_on, after_on}
use Rattle.dispatch.specs.Costing.{Costing}
use Rattle.dispatch.specs.Dispatch.{is_slip_of, draft_in}
use Rattle.dispatch.specs.Slips.{SlipNumbers}
use Rattle.dispatch.specs.Tally.{Tally, Hold, Tick, Draft, Adopt, Refused, Done, unless, tally_held, tally_ticked, open_count, outcome_of_search, hand_of, adopted, answer_of}
use Rattle.desk.specs.Calls.{refused_by, adoption, reply_to, last_reply, reply_of}
use Rattle.desk.specs.Replies.{IsPlain}

-- there is a reply, and it is plain
abbrev pub Plainly : Option Reply → Type 0
Plainly r = IsSomeAnd r IsPlain

pub plain_some : (r : Option Reply) → Plainly r → IsSome r
plain_some (Some r) p = refl
plain_some None p = absurd p

number_in : Reply → ℕ
number_in (reply.Refused n) = n
number_in r = 0

plain_number : (n : ℕ) → (n ≡ 16 → ⊥) → IsPlain (reply.Refused n)
unfolding number_in
plain_number n other = (λ buffer. tt, λ e. other (ap number_in e))

by_floor : (f : Option FloorFault) (a : Answer) (t : Tally) → Plainly (reply_to (Ok a) None)
    → Plainly (reply_to (answer_of (unless (option_map from_floor f) (Done a t))) None)
by_floor None a t p = p
by_floor (Some floor.NoShuttle) a t p = plain_number 7 (λ e. omega (arith, e))
by_floor (Some floor.AtLastStop) a t p = plain_number 8 (λ e. omega (arith, e))
by_floor (Some floor.LongHold) a t p = plain_number 9 (λ e. omega (arith, e))

pub plain_hold : (s ticks : ℕ) (o : Option Tally) → Plainly (reply_of (Hold s ticks ∷ []) o)
plain_hold s ticks None = plain_number 1 (λ e. omega (arith, e))
plain_hold s ticks (Some t) = by_floor (fault_of_hold (paths_on t.state) t.state.shuttles s ticks) Held (tally_held s ticks t) (λ buffer. tt, λ e. cc)

pub plain_tick : (standing : ℕ) (o : Option Tally) → Plainly (reply_of (Tick standing ∷ []) o)
plain_tick standing None = plain_number 1 (λ e. omega (arith, e))
plain_tick standing (Some t) = by_floor (tick_fault (paths_on t.state) standing) (Moved (moved_on standing t.state)) (tally_ticked standing t) (λ buffer. tt, λ e. cc)

-- an answer to a draft
abbrev pub OfDraft : Result Answer Refusal → Type 0
OfDraft (Ok (Drafted cost taken run draft)) = Unit {0}
OfDraft (Ok Held) = ⊥
OfDraft (Ok (Moved word)) = ⊥
OfDraft (Ok (Adopted cost)) = ⊥
OfDraft (Ok Dismissed) = ⊥
OfDraft (Err why) = IsPlain (refused_by why)

by_search : (cost : Costing) (r : Result Redrawn RedrawFault) (t : Tally) → OfDraft (answer_of (outcome_of_search cost r t))
by_search cost (Ok r) t = tt
by_search cost (Err fault.TooManyOpen) t = plain_number 10 (λ e. omega (arith, e))
by_search cost (Err (fault.ListFull taken)) t = plain_number 12 (λ e. omega (arith, e))
by_search cost (Err (fault.BudgetSpent taken)) t = plain_number 13 (λ e. omega (arith, e))

by_draft : (many given : Bool) (cost : Costing) (r : Result Redrawn RedrawFault) (t : Tally)
    → OfDraft (answer_of (unless (if many then Some TooManyOpen else if given then Some TooManyDrafts else None) (outcome_of_search cost r t)))
by_draft true given cost r t = plain_number 10 (λ e. omega (arith, e))
by_draft false true cost r t = plain_number 11 (λ e. omega (arith, e))
by_draft false false cost r t = by_search cost r t

pub of_draft : (cost : Costing) (capacity budget : ℕ) (places : List ℕ) (o : Option Tally) → OfDraft (answer_on (Draft cost capacity budget places) o)
of_draft cost capacity budget places None = plain_number 1 (λ e. omega (arith, e))
of_draft cost capacity budget places (Some t) =
    by_draft (ltb MOST_OPEN (open_count t.state)) (leb MOST_DRAFTS t.drafts) cost (redrawn cost.start cost.next t.state capacity budget places) t

by_overtaken : (b : Bool) (cost : ℕ) (t : Tally) → Plainly (reply_to (answer_of (if b then Refused Overtaken else Done (Adopted cost) t)) None)
by_overtaken true cost t = plain_number 15 (λ e. omega (arith, e))
by_overtaken false cost t = (λ buffer. tt, λ e. cc)

by_slip : (b : Bool) (d : HandDraft) (t : Tally) → Plainly (reply_to (answer_of (adopted (if b then Ok d else Err NotInHand) t)) None)
by_slip true d t = by_overtaken d.overtaken d.cost _
by_slip false d t = plain_number 14 (λ e. omega (arith, e))

by_hand : (slip : SlipNumbers) (h : Option HandDraft) (t : Tally) → Plainly (reply_to (answer_of (adopted (draft_in slip t.state.number h) t)) None)
by_hand slip None t = plain_number 14 (λ e. omega (arith, e))
by_hand slip (Some d) t = by_slip (is_slip_of slip t.state.number d) d t

plain_adopt : (run draft : ℕ) (o : Option Tally) → Plainly (reply_to (answer_on (Adopt run draft) o) None)
plain_adopt run draft None = plain_number 1 (λ e. omega (arith, e))
plain_adopt run draft (Some t) = by_hand (record { run = run; draft = draft }) (hand_of t.hand) t

by_adoption : (a : Result Answer Refusal) (o : Option Tally) → OfDraft a → Plainly (last_reply (reply_to a None) (adoption a) o)
by_adoption (Ok (Drafted cost taken run draft)) o h = plain_adopt run draft o
by_adoption (Ok Held) o h = absurd h
by_adoption (Ok (Moved word)) o h = absurd h
by_adoption (Ok (Adopted cost)) o h = absurd h
by_adoption (Ok Dismissed) o h = absurd h
by_adoption (Err why) o h = h

pub plain_redraw : (cost : Costing) (capacity budget : ℕ) (places : List ℕ) (o : Option Tally)
    → Plainly (reply_of (Draft cost capacity budget places ∷ adoption (answer_on (Draft cost capacity budget places) o)) o)
plain_redraw cost capacity budget places o =
    by_adoption (answer_on (Draft cost capacity budget places) o) (after_on (Draft cost capacity budget places) o) (of_draft cost capacity budget places o)

pub plain_in : (r : Option Reply) (x : Reply) → r ≡ Some x → Plainly r → IsPlain x
plain_in r x is p = subst Plainly is p
