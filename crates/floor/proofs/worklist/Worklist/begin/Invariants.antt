use Rattle.floor.proofs.Beginning.{Begun}
use Rattle.floor.proofs.worklist.Worklist.begin.Given as goal

abbrev pub invariant-loop-shuttle : goal.invariant-loop-shuttle
invariant-loop-shuttle l = Begun l.scene.floor.now.shuttles l.shuttle l.self
