use Rattle.std.proofs.Common.{◌≡◌, ◌+◌, None}
use Rattle.meetings.specs.Meetings.{RowsClear, RowClear}
use Rattle.meetings.proofs.clash.first_clash.Given as goal

abbrev pub invariant-pairs : goal.invariant-pairs
invariant-pairs l = record { rows : RowsClear l.stays l.k; none : l.found ≡ None }

abbrev pub invariant-loop-b : goal.invariant-loop-b
invariant-loop-b l = record { row : RowClear l.stays l.k (l.k + 1 + l.b-index); none : l.found ≡ None }
