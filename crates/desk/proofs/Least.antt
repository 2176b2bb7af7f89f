-- A redrawing that is carried out leaves orders in force that cost what it shows, and no lawful orders cost less.
use Rattle.std.proofs.Common.{◌≡◌, ℕ, List, [], ◌∷◌, ◌++◌, Some, None, Ok, Err, Option, Result, refl, sym, ap, ◌∙◌, subst, append_assoc}
use Rattle.lines.specs.declared.commands.Command.{Command}
use Rattle.lines.specs.declared.commands.Command.TheVariants as command
use Rattle.lines.specs.declared.replies.Reply.{Reply}
use Rattle.lines.specs.declared.replies.Reply.TheVariants as reply
use Rattle.plans.specs.declared.plan.Plan.{Plan}
use Rattle.plans.specs.Kept.{IsKept}
use Rattle.redraw.specs.declared.redrawn.Redrawn.{Redrawn}
use Rattle.redraw.specs.declared.redrawn.RedrawFault.{RedrawFault}
use Rattle.redraw.specs.Redraws.{redrawn}
use Rattle.refusals.specs.declared.Refusal.{Refusal}
use Rattle.run.specs.State.{State}
use Rattle.dispatch.specs.declared.answers.Answer.{Answer}
use Rattle.dispatch.specs.declared.answers.Answer.TheVariants.{Held, Moved, Drafted, Adopted, Dismissed}
use Rattle.dispatch.specs.Costing.{Costing}
use Rattle.dispatch.specs.Law.{IsLeast, TalliesStand}
use Rattle.dispatch.specs.Tally.{MadeDraft, Tally, Call, Draft, Adopt, unless, refusal_before, outcome_of_search, tally_after, answer_of, after, answer, after_all, tally, fresh_tally}
use Rattle.desk.specs.Calls.{DRAFT_ROOM, Search, draft, adoption, reply_to, reply_of, last_reply, refused_by, by_number, LineMakes}
use Rattle.desk.specs.Replies.{IsLeastSum, LeavesLeast, RepliedToLine}
use Rattle.desk.proofs.Plain.{OfDraft, of_draft}

-- a draft that is carried out is in hand with its cost
MadeWith : Costing → Result Answer Refusal → Tally → Type 0
MadeWith cost (Err why) t = Unit {0}
MadeWith cost (Ok answer) t = (made : MadeDraft) → t.hand ≡ Some made → made.made_with ≡ cost

made_by_search : (cost : Costing) (r : Result Redrawn RedrawFault) (t : Tally) → MadeWith cost (answer_of (outcome_of_search cost r t)) (tally_after (outcome_of_search cost r t) t)
unfolding MadeWith
made_by_search cost (Ok r) t = λ made is. cc
made_by_search cost (Err fault) t = tt

made_unless : (cost : Costing) (w : Option Refusal) (r : Result Redrawn RedrawFault) (t : Tally)
    → MadeWith cost (answer_of (unless w (outcome_of_search cost r t))) (tally_after (unless w (outcome_of_search cost r t)) t)
unfolding MadeWith
made_unless cost None r t = made_by_search cost r t
made_unless cost (Some why) r t = tt

made_with : (cost : Costing) (capacity budget : ℕ) (places : List ℕ) (t : Tally) → MadeWith cost (answer (Draft cost capacity budget places) t) (after (Draft cost capacity budget places) t)
made_with cost capacity budget places t = made_unless cost (refusal_before t.state t.drafts) (redrawn cost.start cost.next t.state capacity budget places) t

-- the tally after a list and one more call
tally_more : (before : List Call) (call : Call) (t : Tally) → after_all (before ++ call ∷ []) t ≡ after call (after_all before t)
tally_more [] call t = refl
tally_more (first ∷ before) call t = tally_more before call (after first t)

abbrev OfRedrawing : Reply → State → Type 0
OfRedrawing r st = LeavesLeast (Some (command.Redraw 0)) r st

no_number : (n : Option ℕ) (st : State) → OfRedrawing (by_number n) st
no_number None st = tt
no_number (Some n) st = tt

module _ (stand : TalliesStand) (plan : Plan) (number : ℕ) (before : List Call) (kept : IsKept plan) (budget : ℕ) (search : Search budget (Some (tally plan number before))) where
  abbrev t : Tally
  t = tally plan number before

  abbrev d : Call
  d = draft search

  abbrev end : List Call → State
  end calls = (tally plan number (before ++ calls)).state

  regroup : (run number_of : ℕ) → before ++ (d ∷ Adopt run number_of ∷ []) ≡ (before ++ d ∷ []) ++ Adopt run number_of ∷ []
  regroup run number_of = simp append_assoc

  adopted_least : (cost taken run k total : ℕ) → answer d t ≡ Ok (Drafted cost taken run k) → answer (Adopt run k) (after d t) ≡ Ok (Adopted total)
      → IsLeastSum total (end (d ∷ Adopt run k ∷ []))
  unfolding MadeWith
  adopted_least cost taken run k total drafted adopts =
      let more : tally plan number (before ++ d ∷ []) ≡ after d t = tally_more before d (fresh_tally plan number) in
      let answers : answer (Adopt run k) (tally plan number (before ++ d ∷ [])) ≡ Ok (Adopted total) = ap (λ (x : Tally). answer (Adopt run k) x) more ∙ adopts in
      let all = before ++ (d ∷ Adopt run k ∷ []) in
      let least = (stand plan number all kept).least (before ++ d ∷ []) run k total (regroup run k) answers in
      let made = subst (λ (a : Result Answer Refusal). MadeWith search.cost a (after d t)) drafted (made_with search.cost DRAFT_ROOM budget search.places t) in
      let with : least.made.made_with ≡ search.cost = made least.made (ap (λ (x : Tally). x.hand) (sym more) ∙ least.in_hand) in
      record { cost = search.cost; is = search.is; least = subst (λ (c : Costing). IsLeast c (tally plan number all).state total) with least.least }

  by_adopted : (cost taken run k : ℕ) (b : Result Answer Refusal) → answer d t ≡ Ok (Drafted cost taken run k) → answer (Adopt run k) (after d t) ≡ b
      → (r : Reply) → Some r ≡ reply_to b None → OfRedrawing r (end (d ∷ Adopt run k ∷ []))
  by_adopted cost taken run k (Ok (Adopted total)) drafted adopts r is =
      let same : r ≡ reply.Redrawn total = cc in rw same (adopted_least cost taken run k total drafted adopts)
  by_adopted cost taken run k (Ok Held) drafted adopts r is = let same : r ≡ reply.Held = cc in rw same tt
  by_adopted cost taken run k (Ok (Moved word)) drafted adopts r is = let same : r ≡ reply.Ticked word = cc in rw same tt
  by_adopted cost taken run k (Ok (Drafted x y z w)) drafted adopts r is = absurd (cc)
  by_adopted cost taken run k (Ok Dismissed) drafted adopts r is = absurd (cc)
  by_adopted cost taken run k (Err why) drafted adopts r is = let same : r ≡ refused_by why = cc in rw same (no_number _ _)

  by_drafted : (a : Result Answer Refusal) → answer d t ≡ a → OfDraft a → (r : Reply) → Some r ≡ last_reply (reply_to a None) (adoption a) (Some (after d t)) → OfRedrawing r (end (d ∷ adoption a))
  by_drafted (Ok (Drafted cost taken run k)) drafted of r is = by_adopted cost taken run k (answer (Adopt run k) (after d t)) drafted refl r is
  by_drafted (Ok Held) drafted of r is = absurd of
  by_drafted (Ok (Moved word)) drafted of r is = absurd of
  by_drafted (Ok (Adopted cost)) drafted of r is = absurd of
  by_drafted (Ok Dismissed) drafted of r is = absurd of
  by_drafted (Err why) drafted of r is = let same : r ≡ refused_by why = cc in rw same (no_number _ _)

  by_redrawn : (r : Reply) (calls : List Call) → calls ≡ d ∷ adoption (answer d t) → Some r ≡ reply_of calls (Some t) → OfRedrawing r (end calls)
  by_redrawn r calls are is =
      subst (λ (l : List Call). OfRedrawing r (end l)) (sym are)
      (by_drafted (answer d t) refl (of_draft search.cost DRAFT_ROOM budget search.places (Some t)) r (is ∙ ap (λ (l : List Call). reply_of l (Some t)) are))

pub leaves_least :
    TalliesStand → (plan : Plan) (number : ℕ) (before : List Call) → IsKept plan → (line : Option Command) (r : Reply) (sheet sheet_after : List ℕ) (calls : List Call)
    → LineMakes line (Some (tally plan number before)) calls → RepliedToLine line (Some (tally plan number before)) calls r sheet sheet_after
    → LeavesLeast line r (tally plan number (before ++ calls)).state
leaves_least stand plan number before kept None r sheet sheet_after calls makes replied = tt
leaves_least stand plan number before kept (Some (command.Hold s ticks)) r sheet sheet_after calls makes replied = tt
leaves_least stand plan number before kept (Some (command.Tick standing)) r sheet sheet_after calls makes replied = tt
leaves_least stand plan number before kept (Some command.Sheet) r sheet sheet_after calls makes replied = tt
leaves_least stand plan number before kept (Some (command.Redraw budget)) r sheet sheet_after calls (search, are) replied =
    by_redrawn stand plan number before kept budget search r calls are replied.0
