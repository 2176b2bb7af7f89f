-- A run that has a plan, with its drafts.
use Rattle.std.specs.Prelude.{ℕ, Bool, true, ◌&&◌, ◌==◌, if◌then◌else◌, Some, None, Ok, Err, Option, Result}
use Rattle.std.specs.Option.{option_map}
use Rattle.refusals.specs.declared.Refusal.{Refusal}
use Rattle.refusals.specs.declared.Refusal.TheVariants.{NoPlan, NotInHand}
use Rattle.run.specs.State.{State}
use Rattle.dispatch.specs.declared.dispatcher.HandDraft.{HandDraft}
use Rattle.dispatch.specs.Slips.{SlipNumbers}

-- the state of the run, how many drafts it gave, and the draft in hand
pub record Dispatch : Type 0 where
  pub state : State
  pub drafts : ℕ
  pub hand : Option HandDraft

-- without a plan there is none of it
abbrev pub dispatch_of : Option State → (drafts : ℕ) → Option HandDraft → Option Dispatch
dispatch_of run drafts hand = option_map (λ st. record { state = st; drafts = drafts; hand = hand }) run

-- a draft after a hold or a tick
abbrev pub overtaken : HandDraft → HandDraft
overtaken d = record { number = d.number; cost = d.cost; orders = d.orders; overtaken = true }

-- whether a slip's two numbers are those of the run and of a draft
abbrev pub is_slip_of : SlipNumbers → (run : ℕ) → HandDraft → Bool
is_slip_of slip run d = slip.run == run && slip.draft == d.number

-- the draft in hand, if the slip is of it
abbrev pub draft_in : SlipNumbers → (run : ℕ) → Option HandDraft → Result HandDraft Refusal
draft_in slip run None = Err NotInHand
draft_in slip run (Some d) = if is_slip_of slip run d then Ok d else Err NotInHand

-- without a plan there is none
abbrev pub draft_on : SlipNumbers → Option State → Option HandDraft → Result HandDraft Refusal
draft_on slip None hand = Err NoPlan
draft_on slip (Some st) hand = draft_in slip st.number hand
