-- What the console prints for a line, and what the line does to the dispatcher.
use Rattle.std.specs.Prelude.{◌≡◌, ℕ, ◌≤◌, List, ◌∷◌, ◌++◌, length, take, Some, None, Ok, Err, Option, Result, ◌≢◌}
use Rattle.std.specs.Option.{option_map}
use Rattle.std.specs.Str.{IsAscii}
use Rattle.lines.specs.declared.commands.Command.{Command}
use Rattle.lines.specs.declared.commands.Command.TheVariants as command
use Rattle.lines.specs.declared.replies.Reply.{Reply}
use Rattle.lines.specs.declared.replies.Reply.TheVariants.{Redrawn, Sheet}
use Rattle.plans.specs.declared.plan.Plan.{Plan}
use Rattle.plans.specs.Kept.{IsKept}
use Rattle.refusals.specs.declared.Refusal.{Refusal}
use Rattle.refusals.specs.declared.Refusal.TheVariants.{ShortBuffer, BadLine}
use Rattle.run.specs.State.{State}
use Rattle.sheet.specs.Written.{SheetWritten}
use Rattle.dispatch.specs.declared.answers.Answer.{Answer}
use Rattle.dispatch.specs.declared.answers.Answer.TheVariants.{Drafted}
use Rattle.dispatch.specs.Agreement.{Agrees, answer_on}
use Rattle.dispatch.specs.Carrying.{after_list}
use Rattle.dispatch.specs.Costing.{Costing}
use Rattle.dispatch.specs.Dispatch.{Dispatch}
use Rattle.dispatch.specs.Law.{IsLeast, Stands}
use Rattle.dispatch.specs.Tally.{Tally, Call, tally}
use Rattle.desk.specs.Calls.{IsSum, refused_by, LineMakes, reply_of}

-- a reply that does not say that a buffer was too short
abbrev pub IsNotShort : Reply → Type 0
IsNotShort r = r ≢ refused_by ShortBuffer

-- a sheet that is shown is a text in the front of the buffer
abbrev pub Shown : Reply → List ℕ → Type 0
Shown (Sheet bytes) buffer = (bytes ≤ length buffer) × IsAscii (take bytes buffer)
Shown r buffer = Unit {0}

-- a reply that shows no sheet, and does not say that a buffer was too short
abbrev pub IsPlain : Reply → Type 0
IsPlain r = ((buffer : List ℕ) → Shown r buffer) × IsNotShort r

-- what comes of writing the sheet
abbrev pub sheet_reply : Result ℕ Refusal → Reply
sheet_reply (Ok bytes) = Sheet bytes
sheet_reply (Err why) = refused_by why

abbrev pub WritesSheet : Option State → Reply → List ℕ → List ℕ → Type 0
WritesSheet st r old new =
    (written : Result ℕ Refusal) × SheetWritten st written old new × (r ≡ sheet_reply written)

abbrev pub SheetShown : Option Dispatch → Reply → List ℕ → List ℕ → Type 0
SheetShown d r old new = WritesSheet (option_map (λ d. d.state) d) r old new

-- The reply to a command that makes these calls from a tally, and what it leaves in the buffer for
-- the sheet: only the sheet is written there.
abbrev pub Replied : Command → Option Tally → List Call → Reply → List ℕ → List ℕ → Type 0
Replied (command.Hold s ticks) o calls r old new = (Some r ≡ reply_of calls o) × (new ≡ old)
Replied (command.Tick standing) o calls r old new = (Some r ≡ reply_of calls o) × (new ≡ old)
Replied (command.Redraw budget) o calls r old new = (Some r ≡ reply_of calls o) × (new ≡ old)
Replied command.Sheet o calls r old new = WritesSheet (option_map (λ t. t.state) o) r old new

-- a line by what it is read as: a bad one is refused
abbrev pub RepliedToLine :
    Option Command → Option Tally → List Call → Reply → List ℕ → List ℕ → Type 0
RepliedToLine None o calls r old new = (r ≡ refused_by BadLine) × (new ≡ old)
RepliedToLine (Some command) o calls r old new = Replied command o calls r old new

-- The reply shows a draft: its cost, or why it is refused. So no adoption is refused.
abbrev pub Shows : Result Answer Refusal → Reply → Type 0
Shows (Ok (Drafted cost taken run draft)) r = r ≡ Redrawn cost
Shows (Ok answer) r = ⊥
Shows (Err why) r = r ≡ refused_by why

-- a redrawing begins with its draft
abbrev pub ShowsDraft : Option Command → Option Tally → List Call → Reply → Type 0
ShowsDraft (Some (command.Redraw budget)) o (call ∷ calls) r = Shows (answer_on call o) r
ShowsDraft line o calls r = Unit {0}

-- A line is carried out from a tally, or without a plan: its calls, the reply to them and the
-- buffer, and what the dispatcher then agrees with.
pub record Obeys
    (line : Option Command) (r : Reply) (o : Option Tally) (new : Option Dispatch)
    (sheet sheet_after : List ℕ)
    : Type 0 where
  pub calls : List Call
  pub makes : LineMakes line o calls
  pub reply : RepliedToLine line o calls r sheet sheet_after
  pub draft : ShowsDraft line o calls r
  pub agrees : Agrees new (after_list calls o)

abbrev pub Obeyed :
    Option Command → Reply → Option Dispatch → Option Dispatch → List ℕ → List ℕ → Type 0
Obeyed line r old new sheet sheet_after =
    (o : Option Tally) → Agrees old o → Obeys line r o new sheet sheet_after

-- The orders in force cost so much, by the sum of the arrivals, and no lawful orders cost less.
pub record IsLeastSum (total : ℕ) (st : State) : Type 0 where
  pub cost : Costing
  pub is : IsSum cost
  pub least : IsLeast cost st total

-- a redrawing that is carried out shows the least cost, and leaves its orders in force
abbrev pub LeavesLeast : Option Command → Reply → State → Type 0
LeavesLeast (Some (command.Redraw budget)) (Redrawn total) st = IsLeastSum total st
LeavesLeast line r st = Unit {0}

-- The same from the tally of a list of calls, and the law after it.
pub record ObeysLawfully
    (line : Option Command) (r : Reply) (plan : Plan) (number : ℕ) (before : List Call)
    (new : Option Dispatch) (sheet sheet_after : List ℕ)
    : Type 0 where
  pub calls : List Call
  pub makes : LineMakes line (Some (tally plan number before)) calls
  pub reply : RepliedToLine line (Some (tally plan number before)) calls r sheet sheet_after
  pub draft : ShowsDraft line (Some (tally plan number before)) calls r
  pub agrees : Agrees new (Some (tally plan number (before ++ calls)))
  pub stands : Stands plan number (before ++ calls)
  pub least : LeavesLeast line r (tally plan number (before ++ calls)).state

-- A line, from any tally, from none, and from that of a list of calls before it.
pub record CarriesOut
    (line : Option Command) (r : Reply) (old new : Option Dispatch) (sheet sheet_after : List ℕ)
    : Type 0 where
  pub tallied : Obeyed line r old new sheet sheet_after
  pub lawful :
      (plan : Plan) (number : ℕ) (before : List Call)
      → IsKept plan → Agrees old (Some (tally plan number before))
      → ObeysLawfully line r plan number before new sheet sheet_after
