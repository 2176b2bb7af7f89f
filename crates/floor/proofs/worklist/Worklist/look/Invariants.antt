use Rattle.floor.specs.Worklists.{Looked}
use Rattle.floor.proofs.worklist.Worklist.look.Given as goal

abbrev pub invariant-loop-seen : goal.invariant-loop-seen
invariant-loop-seen l = Looked l.scene l.self l.fn.at l.seen l.latest
