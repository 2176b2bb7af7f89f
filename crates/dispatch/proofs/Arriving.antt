-- What is left never rises without a hold, and falls at undisturbed ticks.
use Rattle.std.proofs.Common.{◌≡◌, ℕ, suc, ◌+◌, ◌-◌, ◌<◌, ◌≤◌, Bool, true, false, if◌then◌else◌, cond, ◌^◌, List, [], ◌∷◌, length, get_or, sum_by, Some, None, Ok, Err, Option, Result, IsErr, sym, refl, ap, ◌∙◌, subst, inl, inr, le_refl, arith}
use Rattle.std.specs.List.{range_with_len}
use Rattle.std.specs.Option.{option_map}
use Rattle.std.proofs.lemmas.Bool.{cases_lt, eqb-true, false≢true, lt-ltb}
use Rattle.std.proofs.lemmas.List.FromFn.{get_or-range_with_len, length-range_with_len}
use Rattle.std.proofs.lemmas.List.Sums.{sum_by-cons, get_or-le-sum_by}
use Rattle.std.proofs.lemmas.Nat.{pow_pos}
use Rattle.files.specs.Rules.{path_at}
use Rattle.floor.specs.Shuttles.{stop_in}
use Rattle.redraw.specs.declared.redrawn.Redrawn.{Redrawn}
use Rattle.redraw.specs.declared.redrawn.RedrawFault.{RedrawFault}
use Rattle.redraw.specs.Laws.{RedrawLaws}
use Rattle.redraw.specs.Redraws.{redrawn}
use Rattle.refusals.specs.declared.Refusal.{Refusal}
use Rattle.refusals.specs.declared.Refusal.TheVariants.{Overtaken}
use Rattle.floor.specs.declared.floor.calls.FloorFault.TheVariants.{NoShuttle}
use Rattle.floor.specs.Refused.{from_floor}
use Rattle.run.specs.Calls.{hold_refusal, tick_refusal, ticked, moved_on, ordered}
use Rattle.run.specs.Guards.{left_on}
use Rattle.run.specs.Laws.{RunLaws}
use Rattle.run.specs.State.{paths_on, scene_now, count_on}
use Rattle.dispatch.specs.declared.answers.Answer.TheVariants.{Held, Moved, Adopted}
use Rattle.dispatch.specs.declared.dispatcher.HandDraft.{HandDraft}
use Rattle.dispatch.specs.Costing.{Costing}
use Rattle.dispatch.specs.Law.{is_undisturbed, undisturbed, IsNoHold, NoneHeld, AllHome, Arrives}
use Rattle.dispatch.specs.Tally.{Tally, Call, Hold, Tick, Draft, Adopt, Dismiss, Outcome, Refused, Done, unless, tally_held, tally_ticked, refusal_before, outcome_of_search, draft_of, adopted, dismissed, without_draft, tally_after, answer_of, after, after_all}
use Rattle.dispatch.proofs.Sounding.{Sound, sound_after, sound_all}

-- some part of a sum above 0 is above 0
positive : (f : ℕ → ℕ) (xs : List ℕ) → 0 < sum_by f xs → (i : ℕ) × (i < length xs) × (0 < f (get_or xs i 0))
positive f [] h = absurd (omega arith)
positive f (x ∷ xs) h = elim (cases_lt 0 (f x)) [
  | inl l ↦ (0, omega arith, l)
  | inr g ↦ (let r = positive f xs (omega (arith, h, g, sum_by-cons f x xs)) in (suc r.0, omega (arith, r.1), r.2))
]

-- a word that names no shuttle is not refused
nobody_good : (t : Tally) → tick_refusal 0 t.state ≡ None
nobody_good t =
    let ps = paths_on t.state in
    ap (λ (b : Bool). option_map from_floor (cond b None (Some NoShuttle))) (lt-ltb 0 (2 ^ length ps) (pow_pos (length ps)))

module _ (runs : RunLaws) (redraws : RedrawLaws) (t : Tally) (h : Sound t) where
  abbrev n : ℕ
  n = count_on t.state

  abbrev share : ℕ → ℕ
  share s = ((scene_now t.state).last s - (scene_now t.state).entered s) + (scene_now t.state).hold s

  -- somebody is short of the last stop while anything is left
  somebody : 0 < left_on t.state → (s : ℕ) × (s < n) × (suc (stop_in t.state.shuttles s) < length (path_at (paths_on t.state) s))
  somebody some =
      let r = positive share (range_with_len 0 n) some in
      let lt : r.0 < n = omega (arith, r.1, length-range_with_len 0 n) in
      let is : get_or (range_with_len 0 n) r.0 0 ≡ r.0 = get_or-range_with_len 0 n r.0 0 lt ∙ omega arith in
      let has : 0 < share r.0 = subst (λ (k : ℕ). 0 < share k) is r.2 in
      let p = h.run.placed.each r.0 lt in
      elim (cases_lt (suc (stop_in t.state.shuttles r.0)) (length (path_at (paths_on t.state) r.0))) [
        | inl short ↦ (r.0, lt, short)
        | inr ge ↦ (let none = p.home (omega (arith, p.on, ge)) in absurd (omega (arith, has, none, ge)))
      ]

  -- with nothing left, everybody is there
  pub nothing_left : left_on t.state ≤ 0 → AllHome t.state
  nothing_left e s lt =
      let is : get_or (range_with_len 0 n) s 0 ≡ s = get_or-range_with_len 0 n s 0 lt ∙ omega arith in
      let le : share s ≤ left_on t.state = subst (λ (k : ℕ). share k ≤ left_on t.state) is (get_or-le-sum_by share (range_with_len 0 n) s 0 (omega (arith, lt, length-range_with_len 0 n))) in
      omega (arith, le, e, (h.run.placed.each s lt).on)

  -- a refused call leaves what is left
  unless_more : (why : Option Refusal) (o : Outcome) → (why ≡ None → left_on (tally_after o t).state ≤ left_on t.state) → left_on (tally_after (unless why o) t).state ≤ left_on t.state
  unless_more None o k = k refl
  unless_more (Some why) o k = le_refl (left_on t.state)

  never_held : (s ticks : ℕ) (why : Option Refusal) → IsErr (answer_of (unless why (Done Held (tally_held s ticks t)))) → left_on (tally_after (unless why (Done Held (tally_held s ticks t))) t).state ≤ left_on t.state
  never_held s ticks None r = absurd (false≢true r)
  never_held s ticks (Some why) r = le_refl (left_on t.state)

  never_searched : (cost : Costing) (r : Result Redrawn RedrawFault) → left_on (tally_after (outcome_of_search cost r t) t).state ≤ left_on t.state
  never_searched cost (Ok r) = le_refl (left_on t.state)
  never_searched cost (Err fault) = le_refl (left_on t.state)

  never_adopted : (r : Result HandDraft Refusal) → left_on (tally_after (adopted r t) t).state ≤ left_on t.state
  never_adopted (Err why) = le_refl (left_on t.state)
  never_adopted (Ok d) = by d.overtaken
    where
      by : (b : Bool) → left_on (tally_after (if b then Refused Overtaken else Done (Adopted d.cost) (without_draft (ordered d.orders t.state) t)) t).state ≤ left_on t.state
      by true = le_refl (left_on t.state)
      by false = le_refl (left_on t.state)

  never_dismissed : (r : Result HandDraft Refusal) → left_on (tally_after (dismissed r t) t).state ≤ left_on t.state
  never_dismissed (Err why) = le_refl (left_on t.state)
  never_dismissed (Ok d) = le_refl (left_on t.state)

  -- no call but a hold carried out raises what is left
  never : (call : Call) → IsNoHold call t → left_on (after call t).state ≤ left_on t.state
  never (Hold s ticks) r = never_held s ticks (hold_refusal s ticks t.state) r
  never (Tick w) r = unless_more (tick_refusal w t.state) (Done (Moved (moved_on w t.state)) (tally_ticked w t)) (λ _. (runs.safe t.moved t.state w h.run).never)
  never (Draft cost capacity budget places) r =
      let found = redrawn cost.start cost.next t.state capacity budget places in
      unless_more (refusal_before t.state t.drafts) (outcome_of_search cost found t) (λ _. never_searched cost found)
  never (Adopt run draft) r = never_adopted (draft_of (record { run = run; draft = draft }) t)
  never (Dismiss run draft) r = never_dismissed (draft_of (record { run = run; draft = draft }) t)

  fell : (w : ℕ) → w ≡ 0 → (why : Option Refusal) → why ≡ None → 0 < left_on t.state → left_on (tally_after (unless why (Done (Moved (moved_on w t.state)) (tally_ticked w t))) t).state < left_on t.state
  fell w z None e some = let r = somebody some in (runs.safe t.moved t.state w h.run).falls z r.0 (r.1, r.2)
  fell w z (Some why) e some = absurd (cc)

  -- an undisturbed tick makes it fall
  fall : (call : Call) → is_undisturbed call ≡ true → 0 < left_on t.state → left_on (after call t).state < left_on t.state
  fall (Hold s ticks) e some = absurd (false≢true e)
  fall (Tick w) e some =
      let z : w ≡ 0 = eqb-true w 0 e in
      fell w z (tick_refusal w t.state) (subst (λ (v : ℕ). tick_refusal v t.state ≡ None) (sym z) (nobody_good t)) some
  fall (Draft cost capacity budget places) e some = absurd (false≢true e)
  fall (Adopt run draft) e some = absurd (false≢true e)
  fall (Dismiss run draft) e some = absurd (false≢true e)

  pub step : (call : Call) (count : ℕ) → IsNoHold call t → left_on t.state ≤ (if is_undisturbed call then 1 else 0) + count → left_on (after call t).state ≤ count
  step call count r le = go (is_undisturbed call) refl
    where
      go : (b : Bool) → is_undisturbed call ≡ b → left_on (after call t).state ≤ count
      go false e = let same : left_on t.state ≤ 0 + count = subst (λ (b : Bool). left_on t.state ≤ (if b then 1 else 0) + count) e le in omega (arith, same, never call r)
      go true e =
          let more : left_on t.state ≤ 1 + count = subst (λ (b : Bool). left_on t.state ≤ (if b then 1 else 0) + count) e le in
          elim (cases_lt 0 (left_on t.state)) [
            | inl some ↦ omega (arith, more, fall call e some)
            | inr none ↦ omega (arith, none, never call r)
          ]

module _ (runs : RunLaws) (redraws : RedrawLaws) where
  none_left : (more : List Call) (t : Tally) → Sound t → NoneHeld more t → left_on t.state ≤ undisturbed more → left_on (after_all more t).state ≤ 0
  none_left [] t h held le = le
  none_left (call ∷ more) t h held le = none_left more (after call t) (sound_after runs redraws t h call) held.1 (step runs redraws t h call (undisturbed more) held.0 le)

  pub all_arrive : (t : Tally) → Sound t → Arrives t
  all_arrive t h more held le = nothing_left runs redraws (after_all more t) (sound_all runs redraws more t h) (none_left more t h held le)
