use Rattle.std.proofs.Common.{◌≡◌, ◌++◌, map, vec_items}
use Rattle.std.specs.List.{range_with_len}
use Rattle.meetings.specs.Stays.{stay_of_stop}
use Rattle.meetings.proofs.stays.add_stays.Given as goal

abbrev pub invariant-loop-stop : goal.invariant-loop-stop
invariant-loop-stop l = vec_items l.all ≡ vec_items l.initial.all ++ map (stay_of_stop l.shuttle l.stops) (range_with_len 0 l.stop)
