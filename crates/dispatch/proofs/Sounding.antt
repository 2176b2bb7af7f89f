-- Every call leaves a sound tally sound, and a fresh one is sound.
use Rattle.std.proofs.Common.{◌≡◌, ℕ, ◌<◌, ◌≤◌, Bool, true, false, if◌then◌else◌, ltb, leb, List, [], ◌∷◌, length, Some, None, Ok, Err, Option, Result, IfOk, sym, refl, subst}
use Rattle.std.specs.Option.{option_map}
use Rattle.std.proofs.lemmas.Bool.{false≢true, ltb-false}
use Rattle.plans.specs.declared.plan.Plan.{Plan}
use Rattle.plans.specs.Kept.{IsKept}
use Rattle.redraw.specs.declared.finder.TheConstants.{MOST_OPEN}
use Rattle.redraw.specs.declared.redrawn.Redrawn.{Redrawn}
use Rattle.redraw.specs.declared.redrawn.RedrawFault.{RedrawFault}
use Rattle.redraw.specs.Costs.{IsBest}
use Rattle.redraw.specs.Laws.{RedrawLaws}
use Rattle.redraw.specs.Redraws.{redrawn}
use Rattle.refusals.specs.declared.Refusal.{Refusal}
use Rattle.refusals.specs.declared.Refusal.TheVariants.{TooManyOpen, TooManyDrafts, NotInHand, Overtaken}
use Rattle.run.specs.Calls.{hold_refusal, held, tick_refusal, ticked, moved_on, ordered}
use Rattle.run.specs.Laws.{RunLaws}
use Rattle.run.specs.Sound.{IsSound}
use Rattle.run.specs.State.{State}
use Rattle.dispatch.specs.declared.answers.Answer.TheVariants.{Held, Moved, Adopted}
use Rattle.dispatch.specs.declared.dispatcher.HandDraft.{HandDraft}
use Rattle.dispatch.specs.declared.dispatcher.TheConstants.{MOST_DRAFTS}
use Rattle.dispatch.specs.Costing.{Costing}
use Rattle.dispatch.specs.Dispatch.{is_slip_of, draft_in}
use Rattle.dispatch.specs.Slips.{SlipNumbers}
use Rattle.dispatch.specs.Tally.{MadeDraft, Tally, Call, Hold, Tick, Draft, Adopt, Dismiss, Outcome, Refused, Done, unless, overtaken_draft, tally_held, tally_ticked, open_count, refusal_before, outcome_of_search, draft_of, hand_of, adopted, dismissed, without_draft, tally_after, after, after_all, fresh_tally, tally}

-- a draft in hand that is not overtaken is best in the state that there is
abbrev pub IsBestIn : State → MadeDraft → Type 0
IsBestIn st m = IsBest m.made_with.start m.made_with.next st m.draft.orders m.draft.cost

abbrev pub HandIsBest : State → Option MadeDraft → Type 0
HandIsBest st None = Unit {0}
HandIsBest st (Some m) = m.draft.overtaken ≡ false → IsBestIn st m

-- the run is sound, and so is the draft in hand
pub record Sound (t : Tally) : Type 0 where
  pub run : IsSound t.moved t.state
  pub hand : HandIsBest t.state t.hand

-- an overtaken draft promises nothing
overtaken_best : (st : State) (o : Option MadeDraft) → HandIsBest st (option_map overtaken_draft o)
overtaken_best st None = tt
overtaken_best st (Some m) = λ e. absurd (false≢true (sym e))

-- the draft that a slip is of is in hand
in_hand : (slip : SlipNumbers) (run : ℕ) (o : Option MadeDraft) (d : HandDraft) → draft_in slip run (hand_of o) ≡ Ok d → (m : MadeDraft) × (o ≡ Some m) × (m.draft ≡ d)
in_hand slip run None d e = absurd (cc)
in_hand slip run (Some m) d e = (m, refl, by (is_slip_of slip run m.draft) e)
  where
    by : (b : Bool) → (let r : Result HandDraft Refusal = if b then Ok m.draft else Err NotInHand in r) ≡ Ok d → m.draft ≡ d
    by true e = cc
    by false e = absurd (cc)

-- where a draft is not refused before its search, few enough meetings are open
pub few_open : (st : State) (drafts : ℕ) → refusal_before st drafts ≡ None → open_count st ≤ MOST_OPEN
few_open st drafts e = by (ltb MOST_OPEN (open_count st)) refl e
  where
    by : (b : Bool) → ltb MOST_OPEN (open_count st) ≡ b
        → (let o : Option Refusal = if b then Some TooManyOpen else if leb MOST_DRAFTS drafts then Some TooManyDrafts else None in o) ≡ None → open_count st ≤ MOST_OPEN
    by true is e = absurd (cc)
    by false is e = ltb-false MOST_OPEN (open_count st) is

module _ (runs : RunLaws) (redraws : RedrawLaws) (t : Tally) (h : Sound t) where
  unless_sound : (why : Option Refusal) (o : Outcome) → (why ≡ None → Sound (tally_after o t)) → Sound (tally_after (unless why o) t)
  unless_sound None o k = k refl
  unless_sound (Some why) o k = h

  held_sound : (s ticks : ℕ) → hold_refusal s ticks t.state ≡ None → Sound (tally_held s ticks t)
  held_sound s ticks none = record { run = runs.holds t.moved t.state s ticks h.run none; hand = overtaken_best (held s ticks t.state) t.hand }

  ticked_sound : (w : ℕ) → Sound (tally_ticked w t)
  ticked_sound w = record { run = runs.ticks t.moved t.state w h.run; hand = overtaken_best (ticked w t.state) t.hand }

  module _ (cost : Costing) (capacity budget : ℕ) (places : List ℕ) (few : open_count t.state ≤ MOST_OPEN) where
    searched_best : IfOk (redrawn cost.start cost.next t.state capacity budget places) (λ r. IsBest cost.start cost.next t.state r.orders r.cost)
    searched_best = redraws.best cost.start cost.next t.state cost.is (record { sound = (t.moved, h.run); few = few }) capacity budget places

    searched_sound : (r : Result Redrawn RedrawFault) → redrawn cost.start cost.next t.state capacity budget places ≡ r → Sound (tally_after (outcome_of_search cost r t) t)
    searched_sound (Ok r) e = record {
      run = h.run;
      hand = λ _. subst (λ (x : Result Redrawn RedrawFault). IfOk x (λ r. IsBest cost.start cost.next t.state r.orders r.cost)) e searched_best;
    }
    searched_sound (Err fault) e = h

  -- the draft of a slip, if it is not overtaken, is the one that is best
  pub best_of : (slip : SlipNumbers) (d : HandDraft) → draft_of slip t ≡ Ok d → d.overtaken ≡ false
      → (m : MadeDraft) × (t.hand ≡ Some m) × IsBest m.made_with.start m.made_with.next t.state d.orders d.cost
  best_of slip d e current =
      let m = in_hand slip t.state.number t.hand d e in
      let best = subst (HandIsBest t.state) m.1 h.hand in
      let of_d : d.overtaken ≡ false → IsBest m.0.made_with.start m.0.made_with.next t.state d.orders d.cost =
      subst (λ (x : HandDraft). x.overtaken ≡ false → IsBest m.0.made_with.start m.0.made_with.next t.state x.orders x.cost) m.2 best in
      (m.0, m.1, of_d current)

  adopted_sound : (slip : SlipNumbers) (r : Result HandDraft Refusal) → draft_of slip t ≡ r → Sound (tally_after (adopted r t) t)
  adopted_sound slip (Err why) e = h
  adopted_sound slip (Ok d) e = by d.overtaken refl
    where
      by : (b : Bool) → d.overtaken ≡ b → Sound (tally_after (if b then Refused Overtaken else Done (Adopted d.cost) (without_draft (ordered d.orders t.state) t)) t)
      by true is = h
      by false is = record { run = runs.orders t.moved t.state d.orders h.run (best_of slip d e is).2.lawful; hand = tt }

  dismissed_sound : (r : Result HandDraft Refusal) → Sound (tally_after (dismissed r t) t)
  dismissed_sound (Err why) = h
  dismissed_sound (Ok d) = record { run = h.run; hand = tt }

  pub sound_after : (call : Call) → Sound (after call t)
  sound_after (Hold s ticks) = unless_sound (hold_refusal s ticks t.state) (Done Held (tally_held s ticks t)) (held_sound s ticks)
  sound_after (Tick w) = unless_sound (tick_refusal w t.state) (Done (Moved (moved_on w t.state)) (tally_ticked w t)) (λ _. ticked_sound w)
  sound_after (Draft cost capacity budget places) =
      unless_sound (refusal_before t.state t.drafts) (outcome_of_search cost (redrawn cost.start cost.next t.state capacity budget places) t)
      (λ none. searched_sound cost capacity budget places (few_open t.state t.drafts none) (redrawn cost.start cost.next t.state capacity budget places) refl)
  sound_after (Adopt run draft) = let slip : SlipNumbers = record { run = run; draft = draft } in adopted_sound slip (draft_of slip t) refl
  sound_after (Dismiss run draft) = dismissed_sound (draft_of (record { run = run; draft = draft }) t)

module _ (runs : RunLaws) (redraws : RedrawLaws) where
  pub sound_all : (calls : List Call) (t : Tally) → Sound t → Sound (after_all calls t)
  sound_all [] t h = h
  sound_all (call ∷ calls) t h = sound_all calls (after call t) (sound_after runs redraws t h call)

  pub sound_tally : (plan : Plan) (number : ℕ) (calls : List Call) → IsKept plan → Sound (tally plan number calls)
  sound_tally plan number calls k = sound_all calls (fresh_tally plan number) (record { run = runs.fresh number plan k; hand = tt })
