-- The laws of the sheet: of its digits and its order, of whom it has a line for, and of its bytes.
use Rattle.std.specs.Prelude.{◌≡◌, ℕ, ◌^◌, ◌<◌, ◌≤◌, List, length, Some, slice_index}
use Rattle.std.specs.Str.{IsAscii}
use Rattle.std.specs.declared.cmp.Ordering.{Ordering}
use Rattle.files.specs.declared.plan.TheConstants.{MOST_SHUTTLES}
use Rattle.heap.specs.Rows.{no_later}
use Rattle.lines.specs.Numbers.{Writes}
use Rattle.run.specs.Executions.{arrivals_now}
use Rattle.run.specs.State.{State}
use Rattle.sheet.specs.declared.due.Due.{Due}
use Rattle.sheet.specs.declared.sheet.TheConstants.{SHEET_ROOM}
use Rattle.sheet.specs.Ahead.{TellsNextStops}
use Rattle.sheet.specs.Digits.{digits}
use Rattle.sheet.specs.Dues.{due_le}
use Rattle.sheet.specs.Sheets.{sheet_bytes}

-- read back the digits give the number, and no 0 leads but that of 0 itself
abbrev pub DigitsReadBack : Type 0
DigitsReadBack = (n : ℕ) → n < 2 ^ 32 → Writes (digits n) n

abbrev pub NoZeroLeads : Type 0
NoZeroLeads = (n : ℕ) → 0 < n → n < 2 ^ 32 → 48 < slice_index (digits n) 0

-- the order of arrivals is by tick, then by shuttle
abbrev pub DuesOrder : (Due → Due → Ordering) → Type 0
DuesOrder cmp = (a b : Due) → no_later cmp a b ≡ due_le a b

-- a shuttle's arrival is above 0, and so it has a line, exactly where it has a next stop
abbrev pub ArrivalsTellNextStops : Type 0
ArrivalsTellNextStops = (st : State) → TellsNextStops (Some st) (arrivals_now st)

-- any sheet has room
abbrev pub SheetsFit : Type 0
SheetsFit =
    (arrivals : List ℕ) → length arrivals ≤ MOST_SHUTTLES → length (sheet_bytes arrivals) ≤ SHEET_ROOM

-- a sheet is a text of ASCII
abbrev pub SheetsAreAscii : Type 0
SheetsAreAscii = (arrivals : List ℕ) → IsAscii (sheet_bytes arrivals)
