use Rattle.traffic.proofs.Progress.{ticks_never_raise, ticks_make_fall}
use Rattle.traffic.proofs.Ranking.{moves_exactly}
use Rattle.traffic.proofs.Safe.{ticks_keep_waits, changes_keep_waits, no_two_in_one_place, none_follows}
use Rattle.traffic.proofs.steps_stand.Goals as goal

pub returns : goal.returns
returns c = record { moves = moves_exactly; ticks = ticks_keep_waits; changes = changes_keep_waits; apart = no_two_in_one_place; behind = none_follows; never = ticks_never_raise; fall = ticks_make_fall }
