-- What a draft of a run comes to, wherever its waiting list may put the nodes.
use Rattle.std.specs.Prelude.{◌≡◌, ℕ, false, List, [], Some, None, Ok, Err, Option, Result}
use Rattle.heap.specs.Bounded.{Holding}
use Rattle.lists.specs.Moves.{Move, Follows}
use Rattle.lists.specs.declared.node.Node.{Node}
use Rattle.meetings.specs.declared.meet.First.{First}
use Rattle.plans.specs.Refusals.{NumberAndValues}
use Rattle.redraw.specs.Redraws.{drawn}
use Rattle.redraw.specs.declared.redrawn.Redrawn.{Redrawn}
use Rattle.refusals.specs.declared.Refusal.{Refusal}
use Rattle.refusals.specs.Refusals.{refusal}
use Rattle.dispatch.specs.Costing.{Costing}
use Rattle.dispatch.specs.Tally.{Tally, Draft, after, answer, shown}
use Rattle.dispatch.specs.declared.answers.Answer.{Answer}
use Rattle.dispatch.specs.declared.answers.Answer.TheVariants.{Drafted}
use Rattle.dispatch.specs.declared.dispatcher.HandDraft.{HandDraft}

-- a draft by its cost, the nodes taken, and its orders
abbrev pub draft_of : (cost taken : ℕ) (orders : List First) → Redrawn
draft_of cost taken orders = record { cost = cost; taken = taken; orders = orders }

-- the same in hand, just after it is given as the first of its run
abbrev pub in_hand : Redrawn → HandDraft
in_hand r = record { number = 1; cost = r.cost; orders = r.orders; overtaken = false }

-- number and values of what refuses a call
abbrev pub refused : Result Answer Refusal → Option NumberAndValues
refused (Ok a) = None
refused (Err why) = refusal why

-- a waiting list without nodes
abbrev pub empty : (room : ℕ) → Holding Node
empty room = record { row = []; free = room }

-- where a waiting list may put nodes, and what becomes of it
abbrev pub Rule : Type 1
Rule = Holding Node → Move Node → Holding Node → Type 0

-- of a draft by a list of some rule, with so much room, and by a budget
module _ (rule : Rule) (cost : Costing) (room budget : ℕ) (t : Tally) where
  -- With its nodes at these places the search leads from one list to another as the rule allows.
  abbrev pub Allows : (places : List ℕ) → Holding Node → Holding Node → Type 0
  Allows places old new =
      Follows (λ h. h.row) rule old
      (drawn cost.start cost.next t.state room budget places).moves new

  -- The rule allows these places. Wherever it allows to put the nodes, the draft comes to this: it
  -- answers so, as the first draft of run 1; it is then in hand, and the state stays.
  pub record Drafts (places : List ℕ) (r : Redrawn) : Type 0 where
    pub allowed : Allows places (empty room) (empty room)
    pub answers :
        (any : List ℕ) (old new : Holding Node) → Allows any old new
        → answer (Draft cost room budget any) t ≡ Ok (Drafted r.cost r.taken 1 1)
    pub shows :
        (any : List ℕ) (old new : Holding Node) → Allows any old new
        → shown (after (Draft cost room budget any) t)
        ≡ record { state = t.state; drafts = 1; hand = Some (in_hand r) }

  -- The rule allows these places. Wherever it allows to put the nodes, the draft is refused so, and
  -- changes nothing.
  pub record Refuses (places : List ℕ) (why : Option NumberAndValues) : Type 0 where
    pub allowed : Allows places (empty room) (empty room)
    pub answers :
        (any : List ℕ) (old new : Holding Node) → Allows any old new
        → refused (answer (Draft cost room budget any) t) ≡ why
    pub unchanged :
        (any : List ℕ) (old new : Holding Node) → Allows any old new
        → after (Draft cost room budget any) t ≡ t
