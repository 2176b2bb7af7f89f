-- The calls of a line, and the reply to their answers.
use Rattle.std.specs.Prelude.{◌≡◌, ℕ, ◌+◌, List, [], ◌∷◌, ◌++◌, Some, None, Ok, Err, Option, Result}
use Rattle.std.specs.Option.{option_map}
use Rattle.costs.specs.Totals.{total_with}
use Rattle.heap.specs.Bounded.{Holding, capacity}
use Rattle.lines.specs.declared.commands.Command.{Command}
use Rattle.lines.specs.declared.commands.Command.TheVariants as command
use Rattle.lines.specs.declared.replies.Reply.{Reply}
use Rattle.lines.specs.declared.replies.Reply.TheVariants as reply
use Rattle.lists.specs.declared.dive.TheConstants.{KEPT}
use Rattle.lists.specs.declared.node.Node.{Node}
use Rattle.lists.specs.Lists.{Layered, DiveMoves, HeapMoves}
use Rattle.plans.specs.Refusals.{number_of}
use Rattle.refusals.specs.declared.Refusal.{Refusal}
use Rattle.refusals.specs.Refusals.{refusal}
use Rattle.dispatch.specs.declared.answers.Answer.{Answer}
use Rattle.dispatch.specs.declared.answers.Answer.TheVariants.{Held, Moved, Drafted, Adopted, Dismissed}
use Rattle.dispatch.specs.declared.calls.Entry.{Entry}
use Rattle.dispatch.specs.Agreement.{answer_on, after_on, LeavesList}
use Rattle.dispatch.specs.Carrying.{CarriesAll}
use Rattle.dispatch.specs.Costing.{Costing, IsCostOf}
use Rattle.dispatch.specs.Dispatch.{Dispatch}
use Rattle.dispatch.specs.Lists.{CostRules, ListRules, list_rules}
use Rattle.dispatch.specs.Pockets.{Pockets}
use Rattle.dispatch.specs.Tally.{Tally, Call, Hold, Tick, Draft, Adopt, shown}
use Rattle.desk.specs.declared.calls.Replying.{Replying}
use Rattle.desk.specs.declared.calls.TheConstants.{HEAP_ROOM}

abbrev pub by_number : Option ℕ → Reply
by_number (Some number) = reply.Refused number
by_number None = reply.NoMemory

abbrev pub refused_by : Refusal → Reply
refused_by why = by_number (number_of (refusal why))

-- the waiting list of a draft: a dive over a heap
abbrev pub DraftList : Type 0
DraftList = Layered (Holding Node)

abbrev pub draft_lists : ListRules DraftList
draft_lists =
    list_rules (λ d. d.kept.row ++ d.below.row) (DiveMoves HeapMoves)
    (λ d. capacity d.kept + capacity d.below)

-- for so many nodes it has room
abbrev pub DRAFT_ROOM : ℕ
DRAFT_ROOM = KEPT + HEAP_ROOM

-- no node waits in it yet
abbrev pub fresh_list : DraftList
fresh_list = record {
  kept = record { row = []; free = KEPT };
  below = record { row = []; free = HEAP_ROOM };
}

-- a cost that is the sum of the arrivals
abbrev pub IsSum : Costing → Type 0
IsSum cost = IsCostOf 0 (λ total _ arrival. total_with total arrival) cost

-- How a draft with this budget searches from a tally: by the sum of the arrivals, and over a fresh
-- list, with places that its rule allows.
pub record Search (budget : ℕ) (o : Option Tally) : Type 0 where
  pub cost : Costing
  pub is : IsSum cost
  pub places : List ℕ
  pub list_after : DraftList
  pub leaves : LeavesList draft_lists cost budget places (option_map shown o) fresh_list list_after

abbrev pub draft : {budget : ℕ} {o : Option Tally} → Search budget o → Call
draft {budget} search = Draft search.cost DRAFT_ROOM budget search.places

-- a draft that is carried out is adopted, by its own slip
abbrev pub adoption : Result Answer Refusal → List Call
adoption (Ok (Drafted cost taken run draft)) = Adopt run draft ∷ []
adoption (Ok Held) = []
adoption (Ok (Moved word)) = []
adoption (Ok (Adopted cost)) = []
adoption (Ok Dismissed) = []
adoption (Err why) = []

-- the calls that a command makes, started at a tally or without a plan
abbrev pub MakesCalls : Command → Option Tally → List Call → Type 0
MakesCalls (command.Hold s ticks) o calls = calls ≡ Hold s ticks ∷ []
MakesCalls (command.Tick standing) o calls = calls ≡ Tick standing ∷ []
MakesCalls (command.Redraw budget) o calls =
    (search : Search budget o) × (calls ≡ draft search ∷ adoption (answer_on (draft search) o))
MakesCalls command.Sheet o calls = calls ≡ []

-- a bad line makes none
abbrev pub LineMakes : Option Command → Option Tally → List Call → Type 0
LineMakes None o calls = calls ≡ []
LineMakes (Some command) o calls = MakesCalls command o calls

-- The reply to an answer. A draft that is carried out is replied to by its adoption, and no line
-- dismisses one.
abbrev pub reply_to : Result Answer Refusal → Option Reply → Option Reply
reply_to (Ok Held) before = Some reply.Held
reply_to (Ok (Moved word)) before = Some (reply.Ticked word)
reply_to (Ok (Adopted cost)) before = Some (reply.Redrawn cost)
reply_to (Ok (Drafted cost taken run draft)) before = before
reply_to (Ok Dismissed) before = before
reply_to (Err why) before = Some (refused_by why)

-- the reply to calls, one after another: the last one to their answers
abbrev pub last_reply : Option Reply → List Call → Option Tally → Option Reply
last_reply r [] o = r
last_reply r (call ∷ calls) o =
    last_reply (reply_to (answer_on call o) r) calls (after_on call o)

abbrev pub reply_of : List Call → Option Tally → Option Reply
reply_of calls o = last_reply None calls o

-- how the reply comes of an answer
abbrev pub Saw : Replying → Result Answer Refusal → Option Dispatch → Replying → Type 0
Saw old answer d new = new.reply ≡ reply_to answer old.reply

-- Entries are carried out with one pocket, which is empty before; what follows them changes nothing
-- if it is empty after them.
pub record Carries
    {C L : Type 0} (costs : CostRules C) (lists : ListRules L)
    (es : List (Entry C L)) (old : Option Dispatch)
    (back : List (Entry C L)) (r : Option Reply) (new : Option Dispatch)
    : Type 0 where
  pub pockets : Pockets
  pub watch : Replying
  pub between : Option Dispatch
  pub all :
      CarriesAll costs lists Saw
      es (None ∷ []) (record { reply = None }) old back pockets watch between
  pub spent : pockets ≡ None ∷ [] → new ≡ between
  pub reply : r ≡ watch.reply
