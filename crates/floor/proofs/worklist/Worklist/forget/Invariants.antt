use Rattle.floor.specs.Worklists.{Shaped}
use Rattle.floor.proofs.worklist.Worklist.forget.Given as goal

abbrev pub invariant-loop-shuttle : goal.invariant-loop-shuttle
invariant-loop-shuttle l = Shaped l.self

abbrev pub invariant-loop-stop : goal.invariant-loop-stop
invariant-loop-stop l = Shaped l.self
