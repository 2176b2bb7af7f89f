-- The laws of every tally.
use Rattle.std.proofs.Common.{◌≡◌, ℕ, ◌<◌, Bool, true, false, if◌then◌else◌, List, [], ◌∷◌, ◌++◌, length, Some, Ok, Err, Option, Result, IsFalse, sym, refl, ap, ◌∙◌, subst, arith}
use Rattle.meetings.specs.declared.meet.First.{First}
use Rattle.redraw.specs.Costs.{cost_of, IsBest}
use Rattle.redraw.specs.Laws.{RedrawLaws}
use Rattle.refusals.specs.declared.Refusal.{Refusal}
use Rattle.refusals.specs.declared.Refusal.TheVariants.{Overtaken}
use Rattle.run.specs.Calls.{ordered}
use Rattle.run.specs.Lawful.{LawfulFor}
use Rattle.run.specs.Laws.{RunLaws}
use Rattle.run.specs.State.{State}
use Rattle.dispatch.specs.declared.answers.Answer.{Answer}
use Rattle.dispatch.specs.declared.answers.Answer.TheVariants.{Adopted}
use Rattle.dispatch.specs.declared.dispatcher.HandDraft.{HandDraft}
use Rattle.dispatch.specs.Costing.{Costing}
use Rattle.dispatch.specs.Law.{IsLeast, AdoptsLeast, TalliesStand}
use Rattle.dispatch.specs.Slips.{SlipNumbers}
use Rattle.dispatch.specs.Tally.{Tally, Call, Adopt, Outcome, Refused, Done, draft_of, adopted, without_draft, tally_after, answer_of, after, answer, after_all, tally, fresh_tally}
use Rattle.dispatch.proofs.Arriving.{all_arrive}
use Rattle.dispatch.proofs.Sounding.{Sound, sound_tally, best_of}

-- the tally after a list and one more call
pub tally-more : (before : List Call) (call : Call) (t : Tally) → after_all (before ++ call ∷ []) t ≡ after call (after_all before t)
tally-more [] call t = refl
tally-more (first ∷ before) call t = tally-more before call (after first t)

-- what is lawful once lawful orders are in force was lawful before
was_lawful : (st : State) (orders others : List First) → LawfulFor st orders → LawfulFor (ordered orders st) others → LawfulFor st others
was_lawful st orders others l k = record {
  count = k.count;
  agree = λ j lt closed. k.agree j lt closed ∙ l.agree j (omega (arith, lt, l.count, k.count)) closed;
  no_ring = k.no_ring;
}

-- orders cost the same, whichever are in force
same_cost : (start : ℕ) (next : ℕ → ℕ → ℕ → ℕ) (st : State) (orders others : List First) → cost_of start next (ordered orders st) others ≡ cost_of start next st others
unfolding cost_of
same_cost start next st orders others = refl

still_least : (cost : Costing) (st : State) (orders : List First) (total : ℕ) → IsBest cost.start cost.next st orders total → IsLeast cost (ordered orders st) total
still_least cost st orders total b = record {
  costs = same_cost cost.start cost.next st orders orders ∙ b.costs;
  least = λ others more l c. b.least others more (was_lawful st orders others b.lawful l) (sym (same_cost cost.start cost.next st orders others) ∙ c);
}

module _ (runs : RunLaws) (redraws : RedrawLaws) (t : Tally) (h : Sound t) (slip : SlipNumbers) (total : ℕ) where
  least_by : (r : Result HandDraft Refusal) → draft_of slip t ≡ r → answer_of (adopted r t) ≡ Ok (Adopted total) → AdoptsLeast t (tally_after (adopted r t) t) total
  least_by (Err why) e a = absurd (cc)
  least_by (Ok d) e a = by d.overtaken refl a
    where
      by : (b : Bool) → d.overtaken ≡ b → answer_of (if b then Refused Overtaken else Done (Adopted d.cost) (without_draft (ordered d.orders t.state) t)) ≡ Ok (Adopted total)
          → AdoptsLeast t (tally_after (if b then Refused Overtaken else Done (Adopted d.cost) (without_draft (ordered d.orders t.state) t)) t) total
      by true is a = absurd (cc)
      by false is a =
          let k = best_of runs redraws t h slip d e is in
          let same : d.cost ≡ total = cc in
          record {
            made = k.0;
            in_hand = k.1;
            least = subst (λ (c : ℕ). IsLeast k.0.made_with (ordered d.orders t.state) c) same (still_least k.0.made_with t.state d.orders d.cost k.2);
          }

  adopts_least : answer_of (adopted (draft_of slip t) t) ≡ Ok (Adopted total) → AdoptsLeast t (tally_after (adopted (draft_of slip t) t) t) total
  adopts_least a = least_by (draft_of slip t) refl a

pub all_stand : RunLaws → RedrawLaws → TalliesStand
all_stand runs redraws plan number calls k =
    let h = sound_tally runs redraws plan number calls k in
    record {
      safe = runs.safety (tally plan number calls).moved (tally plan number calls).state h.run;
      arrives = all_arrive runs redraws (tally plan number calls) h;
      least = λ before run draft total is a.
          let t = tally plan number before in
          let same : after (Adopt run draft) t ≡ tally plan number calls = sym (tally-more before (Adopt run draft) (fresh_tally plan number)) ∙ ap (λ (l : List Call). tally plan number l) (sym is) in
          subst (λ (x : Tally). AdoptsLeast t x total) same (adopts_least runs redraws t (sound_tally runs redraws plan number before k) (record { run = run; draft = draft }) total a);
    }
