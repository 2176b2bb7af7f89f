use Rattle.std.proofs.Common.{◌≡◌, ℕ, ◌<◌, length, get_or, vec_items}
use Rattle.meetings.specs.declared.meet.First.TheVariants.{Lower}
use Rattle.orders.specs.Reading.{Guessed}
use Rattle.orders.proofs.Zipped.{no_meeting}
use Rattle.orders.proofs.read.guesses.Given as goal

abbrev pub invariant-loop-meeting : goal.invariant-loop-meeting
invariant-loop-meeting l =
    (length (vec_items l.firsts) ≡ l.meeting-index)
    × ((j : ℕ) → j < l.meeting-index → Guessed l.bytes (get_or l.meeting-items j no_meeting) (get_or (vec_items l.firsts) j Lower))
