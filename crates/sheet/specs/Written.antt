-- The sheet of a run, written into a buffer.
use Rattle.std.specs.Prelude.{◌≡◌, ℕ, List, None, Some, Err, Option, Result, IsSome}
use Rattle.traffic.specs.Ticks.{entry_ticks}
use Rattle.refusals.specs.declared.Refusal.{Refusal}
use Rattle.refusals.specs.declared.Refusal.TheVariants.{NoPlan}
use Rattle.run.specs.Executions.{arrivals_now, Execution}
use Rattle.run.specs.State.{State, count_on, scene_now}
use Rattle.run.specs.Writes.{Puts}
use Rattle.sheet.specs.Sheets.{sheet_bytes}

-- The bytes are those of the arrivals under the orders in force. There always are some, and the
-- run's own undisturbed ticks bring the shuttles to their last stops at them.
pub record WritesSheet (st : State) (r : Result ℕ Refusal) (old new : List ℕ) : Type 0 where
  pub some : IsSome (entry_ticks (scene_now st) (count_on st))
  pub execution : Execution st (arrivals_now st)
  pub bytes : Puts r (sheet_bytes (arrivals_now st)) old new

-- without a plan, or if the buffer is too short, no byte is written
abbrev pub SheetWritten : Option State → Result ℕ Refusal → List ℕ → List ℕ → Type 0
SheetWritten None r old new = (r ≡ Err NoPlan) × (new ≡ old)
SheetWritten (Some st) r old new = WritesSheet st r old new
