-- Pockets: the caller's memory that slips lie in.
use Rattle.std.specs.Prelude.{◌≡◌, ◌≢◌, ℕ, List, Some, None, Ok, Err, Option, Result, slice_get, slice_set}
use Rattle.refusals.specs.declared.Refusal.{Refusal}
use Rattle.dispatch.specs.declared.answers.Answer.{Answer}
use Rattle.dispatch.specs.declared.answers.Answer.TheVariants.{Held, Moved, Drafted, Adopted, Dismissed}
use Rattle.dispatch.specs.Slips.{SlipNumbers}

abbrev pub Pockets : Type 0
Pockets = List (Option SlipNumbers)

-- an empty pocket, and a pocket with a slip
abbrev pub IsEmptyAt : Pockets → ℕ → Type 0
IsEmptyAt ps p = slice_get ps p ≡ Some None

abbrev pub HasSlipAt : Pockets → ℕ → SlipNumbers → Type 0
HasSlipAt ps p slip = slice_get ps p ≡ Some (Some slip)

-- the pockets once the slip of one is taken out
abbrev pub without_slip : Pockets → ℕ → Pockets
without_slip ps p = slice_set ps p None

-- a slip is taken out of its pocket; or there is none, and nothing changes
abbrev pub TakesSlip : Option SlipNumbers → ℕ → Pockets → Pockets → Type 0
TakesSlip (Some slip) p old new = HasSlipAt old p slip × (new ≡ without_slip old p)
TakesSlip None p old new = ((slip : SlipNumbers) → HasSlipAt old p slip → ⊥) × (new ≡ old)

-- the pockets after a draft: carried out, it puts its slip into the pocket
abbrev pub with_slip : Result Answer Refusal → ℕ → Pockets → Pockets
with_slip (Ok (Drafted cost taken run draft)) p ps = slice_set ps p (Some (record { run = run; draft = draft }))
with_slip (Ok Held) p ps = ps
with_slip (Ok (Moved word)) p ps = ps
with_slip (Ok (Adopted cost)) p ps = ps
with_slip (Ok Dismissed) p ps = ps
with_slip (Err why) p ps = ps
