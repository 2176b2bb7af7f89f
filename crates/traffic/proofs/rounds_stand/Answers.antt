use Rattle.traffic.proofs.Rounds.{entry_ticks_are_timed, no_stop_has_none, timed_is_found, ring_is_none, none_is_later}
use Rattle.traffic.proofs.Worked.{worked_out}
use Rattle.traffic.proofs.rounds_stand.Goals as goal

pub returns : goal.returns
returns c = record { timed = entry_ticks_are_timed; none = no_stop_has_none; found = timed_is_found; ring = ring_is_none; late = none_is_later; worked = worked_out }
