-- The adoption of a draft by its own slip is carried out, and answers the draft's cost.
use Rattle.std.proofs.Common.{◌≡◌, ℕ, ◌+◌, Bool, false, if◌then◌else◌, eqb, List, ◌∷◌, Some, None, Ok, Err, Option, Result, refl, sym, ap, ◌∙◌, subst}
use Rattle.std.proofs.lemmas.Bool.{eq-eqb, and_from}
use Rattle.lines.specs.declared.commands.Command.TheVariants as command
use Rattle.lines.specs.declared.replies.Reply.{Reply}
use Rattle.lines.specs.declared.replies.Reply.TheVariants as reply
use Rattle.redraw.specs.declared.redrawn.Redrawn.{Redrawn}
use Rattle.redraw.specs.declared.redrawn.RedrawFault.{RedrawFault}
use Rattle.redraw.specs.Redraws.{redrawn}
use Rattle.refusals.specs.declared.Refusal.{Refusal}
use Rattle.refusals.specs.declared.Refusal.TheVariants.{NotInHand}
use Rattle.dispatch.specs.declared.answers.Answer.{Answer}
use Rattle.dispatch.specs.declared.answers.Answer.TheVariants.{Held, Moved, Drafted, Adopted, Dismissed}
use Rattle.dispatch.specs.declared.dispatcher.HandDraft.{HandDraft}
use Rattle.dispatch.specs.Agreement.{answer_on}
use Rattle.dispatch.specs.Costing.{Costing}
use Rattle.dispatch.specs.Tally.{Tally, Call, Draft, Adopt, unless, refusal_before, outcome_of_search, drafted, adopted, tally_after, answer_of, after, answer}
use Rattle.desk.specs.Calls.{DRAFT_ROOM, Search, draft, adoption, reply_to, reply_of, last_reply}
use Rattle.desk.specs.Replies.{Shows, ShowsDraft}
use Rattle.desk.proofs.Plain.{OfDraft, of_draft}

-- after a draft that is carried out its slip can be spent
IsAdopted : Result Answer Refusal → Tally → Type 0
IsAdopted (Ok (Drafted cost taken run k)) t = answer (Adopt run k) t ≡ Ok (Adopted cost)
IsAdopted (Ok Held) t = Unit {0}
IsAdopted (Ok (Moved word)) t = Unit {0}
IsAdopted (Ok (Adopted cost)) t = Unit {0}
IsAdopted (Ok Dismissed) t = Unit {0}
IsAdopted (Err why) t = Unit {0}

after_search : (cost : Costing) (r : Result Redrawn RedrawFault) (t : Tally) → IsAdopted (answer_of (outcome_of_search cost r t)) (tally_after (outcome_of_search cost r t) t)
unfolding IsAdopted
after_search cost (Ok r) t =
    let d : HandDraft = record { number = t.drafts + 1; cost = r.cost; orders = r.orders; overtaken = false } in
    ap (λ (b : Bool). answer_of (adopted (if b then Ok d else Err NotInHand) (drafted cost r t)))
    (and_from (eqb t.state.number t.state.number) (eqb (t.drafts + 1) (t.drafts + 1)) (eq-eqb t.state.number t.state.number refl) (eq-eqb (t.drafts + 1) (t.drafts + 1) refl))
after_search cost (Err fault) t = tt

after_draft : (cost : Costing) (w : Option Refusal) (r : Result Redrawn RedrawFault) (t : Tally)
    → IsAdopted (answer_of (unless w (outcome_of_search cost r t))) (tally_after (unless w (outcome_of_search cost r t)) t)
unfolding IsAdopted
after_draft cost None r t = after_search cost r t
after_draft cost (Some why) r t = tt

is_adopted : (cost : Costing) (capacity budget : ℕ) (places : List ℕ) (t : Tally) → IsAdopted (answer (Draft cost capacity budget places) t) (after (Draft cost capacity budget places) t)
is_adopted cost capacity budget places t = after_draft cost (refusal_before t.state t.drafts) (redrawn cost.start cost.next t.state capacity budget places) t

-- the reply by the answer of the draft, and by what comes of its adoption
shows_answer : (a : Result Answer Refusal) (t : Tally) → OfDraft a → IsAdopted a t → (r : Reply) → Some r ≡ last_reply (reply_to a None) (adoption a) (Some t) → Shows a r
unfolding IsAdopted
shows_answer (Ok (Drafted cost taken run k)) t of own r is = let same : Some r ≡ Some (reply.Redrawn cost) = is ∙ ap (λ (b : Result Answer Refusal). reply_to b None) own in cc
shows_answer (Ok Held) t of own r is = absurd of
shows_answer (Ok (Moved word)) t of own r is = absurd of
shows_answer (Ok (Adopted cost)) t of own r is = absurd of
shows_answer (Ok Dismissed) t of own r is = absurd of
shows_answer (Err why) t of own r is = cc

module _ (budget : ℕ) where
  shows : (o : Option Tally) (search : Search budget o) (r : Reply) → Some r ≡ reply_of (draft search ∷ adoption (answer_on (draft search) o)) o → Shows (answer_on (draft search) o) r
  shows None search r is = cc
  shows (Some t) search r is =
      shows_answer (answer (draft search) t) (after (draft search) t) (of_draft search.cost DRAFT_ROOM budget search.places (Some t))
      (is_adopted search.cost DRAFT_ROOM budget search.places t) r is

  pub shows_draft : (o : Option Tally) (search : Search budget o) (calls : List Call) (r : Reply) → calls ≡ draft search ∷ adoption (answer_on (draft search) o) → Some r ≡ reply_of calls o
      → ShowsDraft (Some (command.Redraw budget)) o calls r
  shows_draft o search calls r are is =
      subst (λ (l : List Call). ShowsDraft (Some (command.Redraw budget)) o l r) (sym are) (shows o search r (is ∙ ap (λ (l : List Call). reply_of l o) are))
