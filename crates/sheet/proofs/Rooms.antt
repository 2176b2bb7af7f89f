-- How long a sheet is, and that it is a text.
use Rattle.std.proofs.Common.{ℕ, zero, suc, ◌+◌, ◌/◌, ◌%◌, Bool, true, false, cond, ltb, List, [], ◌∷◌, ◌++◌, length, arith}
use Rattle.std.specs.List.{flat_map}
use Rattle.std.specs.Str.{IsAscii}
use Rattle.std.proofs.lemmas.List.Concat.{length-flat_map}
use Rattle.std.proofs.lemmas.List.Sorted.{length_permutation}
use Rattle.std.proofs.lemmas.List.Sums.{sum_by-le}
use Rattle.std.proofs.lemmas.Str.{IsAscii-append}
use Rattle.std.proofs.lemmas.Str.Ascii.{IsAscii-nil, IsAscii-push}
use Rattle.heap.specs.Laws.{SortsKeepElements}
use Rattle.sheet.specs.declared.due.Due.{Due}
use Rattle.sheet.specs.Digits.{digits_in, digits}
use Rattle.sheet.specs.Dues.{due_le}
use Rattle.sheet.specs.Laws.{SheetsFit, SheetsAreAscii}
use Rattle.sheet.specs.Sheets.{due_bytes, dues_from, sheet_rows}
use Rattle.sheet.proofs.Rowing.{few_dues, line_few}

-- a line for each shuttle at most, each of at most 22 bytes
pub sheets_fit : SortsKeepElements Due → SheetsFit
sheets_fit keep arrivals few =
    let row = sheet_rows arrivals in
    let long = length-flat_map due_bytes row in
    let most = sum_by-le (λ (d : Due). length (due_bytes d)) 22 row (λ k x lt. line_few _) in
    omega (arith, long, most, few, length_permutation (dues_from 0 arrivals) row (keep due_le (dues_from 0 arrivals)), few_dues 0 arrivals)

-- digits, spaces and ends of lines are ASCII
digits_ascii : (k n : ℕ) → IsAscii (digits_in k n)
digits_ascii zero n = IsAscii-nil
digits_ascii (suc k) n = IsAscii-push (cond (ltb n 10) [] (digits_in k (n / 10))) (48 + n % 10) (go (ltb n 10) (digits_ascii k (n / 10))) (omega arith)
  where
    go : (t : Bool) → IsAscii (digits_in k (n / 10)) → IsAscii (cond t [] (digits_in k (n / 10)))
    go true h = IsAscii-nil
    go false h = h

number_ascii : (n : ℕ) → IsAscii (digits n)
unfolding digits
number_ascii n = digits_ascii 10 n

line_ascii : (d : Due) → IsAscii (due_bytes d)
line_ascii d =
    IsAscii-push (digits d.tick ++ (32 ∷ []) ++ digits d.shuttle) 10
    (IsAscii-append (digits d.tick ++ (32 ∷ [])) (digits d.shuttle) (IsAscii-push (digits d.tick) 32 (number_ascii d.tick) (omega arith)) (number_ascii d.shuttle))
    (omega arith)

lines_ascii : (row : List Due) → IsAscii (flat_map due_bytes row)
lines_ascii [] = IsAscii-nil
lines_ascii (d ∷ row) = IsAscii-append (due_bytes d) (flat_map due_bytes row) (line_ascii d) (lines_ascii row)

pub sheets_are_ascii : SheetsAreAscii
sheets_are_ascii arrivals = lines_ascii (sheet_rows arrivals)
