use Rattle.std.proofs.Common.{◌≡◌}
use Rattle.floor.specs.Words.{bit}
use Rattle.floor.proofs.Tables.{stepped_to}
use Rattle.floor.proofs.table.Shuttles.step.Given as goal

abbrev pub invariant-loop-shuttle : goal.invariant-loop-shuttle
invariant-loop-shuttle l = l.one-items ≡ stepped_to (bit l.moved) 0 l.shuttle l.fn.self
