use Rattle.std.proofs.Common.{◌≡◌, ℕ, ◌<◌, false, slice_index}
use Rattle.run.specs.Opens.{open_meetings}
use Rattle.redraw.specs.Nodes.{numbers_of, violates}
use Rattle.redraw.proofs.opens.OpenMeetings.lowest.Given as goal

abbrev pub invariant-loop-bit : goal.invariant-loop-bit
invariant-loop-bit l = let st = l.self.driven.now in (k : ℕ) → k < l.bit → violates st l.decided (numbers_of l.timetable) (k, slice_index (open_meetings st) k) ≡ false
