use Rattle.std.proofs.Common.{◌≡◌, ◌+◌, ◌≤◌, ◌++◌, false, length, drop, vec_items}
use Rattle.std.specs.List.{flat_map}
use Rattle.meetings.specs.declared.meet.TheConstants.{MOST_MEETINGS}
use Rattle.meetings.specs.Meetings.{RowClear, RowsClear, meet_with, meetings_of}
use Rattle.meetings.proofs.meet.find_meetings.Given as goal

abbrev pub invariant-loop-k : goal.invariant-loop-k
invariant-loop-k l = (meetings_of l.stays ≡ vec_items l.all ++ meetings_of (drop l.k l.stays)) × (length (vec_items l.all) ≤ MOST_MEETINGS) × (l.clash ≡ false → RowsClear l.stays l.k)

abbrev pub invariant-loop-b : goal.invariant-loop-b
invariant-loop-b l =
    (meetings_of l.stays
    ≡ vec_items l.all ++ (flat_map (meet_with l.a) (drop (l.k + 1 + l.b-index) l.stays) ++ meetings_of (drop (l.k + 1) l.stays)))
    × (length (vec_items l.all) ≤ MOST_MEETINGS)
    × (l.clash ≡ false → RowsClear l.stays l.k × RowClear l.stays l.k (l.k + 1 + l.b-index))
