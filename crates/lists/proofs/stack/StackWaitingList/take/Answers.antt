use Rattle.std.proofs.Common.{◌-◌, length, take, subst, arith}
use Rattle.heap.specs.Bounded.{Holding}
use Rattle.lists.specs.declared.node.Node.{Node}
use Rattle.lists.specs.Lists.{StackMoves, newest_first}
use Rattle.lists.specs.Moves.{Take}
use Rattle.lists.proofs.Stacked.{taken_off}
use Rattle.lists.proofs.stack.StackWaitingList.take.Goals as goal

pub returns-clause-allowed : goal.returns-clause-allowed
returns-clause-allowed c =
    let xs = c.self.inside.memory.now in
    let n = c.self.inside.len in
    let P : Holding Node → Type 0 = λ h. StackMoves h Take (newest_first (length xs) (take (n - 1) xs)) in
    subst P c.self.view_is (taken_off xs n (record { bound = 0; decided = 0; turned = 0 }) (omega (arith, c.if-self-eq0.false)) c.self.invariant)
