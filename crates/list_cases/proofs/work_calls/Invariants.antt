use Rattle.std.proofs.Common.{length}
use Rattle.list_cases.proofs.work_calls.Given as goal

abbrev pub decreases-loop : goal.decreases-loop
decreases-loop g l = length (g.L.WaitingList.nodes l.list)
