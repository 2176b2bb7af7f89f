use Rattle.std.proofs.Common.{◌≡◌, ◌≤◌, length}
use Rattle.run.specs.Opens.{opens_below}
use Rattle.redraw.specs.declared.finder.TheConstants.{MOST_OPEN}
use Rattle.redraw.proofs.opens.list_opens.Given as goal

abbrev pub invariant-loop-meeting : goal.invariant-loop-meeting
invariant-loop-meeting l = record { listed : l.opens.items ≡ opens_below l.driven l.meeting; few : length l.opens.items ≤ MOST_OPEN }
