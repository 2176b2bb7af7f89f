use Rattle.std.proofs.Common.{arith}
use Rattle.heap.proofs.Holdings.{room_is}
use Rattle.heap.proofs.bounded.BoundedHeap.clear.Goals as goal

pub returns-clause-free : goal.returns-clause-free
returns-clause-free g c = omega (arith, room_is g.T.TotalOrder.le c.self.inside.len c.self.inside.memory.now c.self.invariant.0 c.args.self.now c.self.view_is)
