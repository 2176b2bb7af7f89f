-- A draft by a heap or by a stack comes to one thing, wherever the rule puts the nodes.
use Rattle.std.specs.Prelude.{◌≡◌, ℕ, Bool, true, List, Some, Ok, Option}
use Rattle.std.proofs.Common.{ap, subst, ◌∙◌}
use Rattle.heap.specs.Bounded.{Holding}
use Rattle.lists.specs.Moves.{Move}
use Rattle.lists.specs.declared.node.Node.{Node}
use Rattle.plans.specs.Refusals.{NumberAndValues}
use Rattle.redraw.specs.Nodes.{question}
use Rattle.redraw.specs.Redraws.{drawn, redrawn, in_orders}
use Rattle.redraw.specs.declared.redrawn.Redrawn.{Redrawn}
use Rattle.dispatch.specs.Costing.{Costing}
use Rattle.dispatch.specs.Tally.{Tally, Draft, after, answer, answer_of, draft_outcome, outcome_of_search, refusal_before, shown, tally_after, unless}
use Rattle.dispatch.specs.declared.answers.Answer.TheVariants.{Drafted}
use Rattle.worked.proofs.Deciding.{one_answer}
use Rattle.worked.proofs.Following.{Tested, followed, passes, moved_all}
use Rattle.worked.specs.Drafts.{Rule, Allows, Drafts, Refuses, empty, in_hand, refused}

-- the moves of a draft's search
abbrev pub moves_of : Costing → (room budget : ℕ) → Tally → (places : List ℕ) → List (Move Node)
moves_of cost room budget t places = (drawn cost.start cost.next t.state room budget places).moves

-- these moves pass a test, from an empty list to an empty list
pub record Passes
    (test : Holding Node → Move Node → Bool)
    (cost : Costing) (room budget : ℕ) (t : Tally) (places : List ℕ) : Type 0 where
  pub each : passes test (empty room) (moves_of cost room budget t places) ≡ true
  pub end : moved_all (empty room) (moves_of cost room budget t places) ≡ empty room

module _
    {rule : Rule} (tested : Tested rule)
    (cost : Costing) (room budget : ℕ) (t : Tally) (places : List ℕ)
    (pass : Passes tested.test cost room budget t places) where
  allowed : Allows rule cost room budget t places (empty room) (empty room)
  allowed =
      subst (λ l. Allows rule cost room budget t places (empty room) l) pass.end
      (followed tested (empty room) (moves_of cost room budget t places) pass.each)

  same_outcome :
      (any : List ℕ) (old new : Holding Node) → Allows rule cost room budget t any old new
      → draft_outcome cost room budget any t ≡ draft_outcome cost room budget places t
  unfolding drawn redrawn
  same_outcome any old new f =
      ap
      (λ a.
      unless (refusal_before t.state t.drafts) (outcome_of_search cost (in_orders t.state a) t))
      (one_answer rule tested.decides (question cost.start cost.next t.state) room budget any places
      old new (empty room) (empty room) f allowed)

  pub drafts :
      (r : Redrawn)
      → answer (Draft cost room budget places) t ≡ Ok (Drafted r.cost r.taken 1 1)
      → shown (after (Draft cost room budget places) t)
      ≡ record { state = t.state; drafts = 1; hand = Some (in_hand r) }
      → Drafts rule cost room budget t places r
  drafts r answers shows = record {
    allowed = allowed;
    answers = λ any old new f. ap answer_of (same_outcome any old new f) ∙ answers;
    shows = λ any old new f. ap (λ o. shown (tally_after o t)) (same_outcome any old new f) ∙ shows;
  }

  pub refuses :
      (why : Option NumberAndValues)
      → refused (answer (Draft cost room budget places) t) ≡ why
      → after (Draft cost room budget places) t ≡ t
      → Refuses rule cost room budget t places why
  refuses why answers unchanged = record {
    allowed = allowed;
    answers = λ any old new f.
        ap (λ o. refused (answer_of o)) (same_outcome any old new f) ∙ answers;
    unchanged = λ any old new f. ap (λ o. tally_after o t) (same_outcome any old new f) ∙ unchanged;
  }
