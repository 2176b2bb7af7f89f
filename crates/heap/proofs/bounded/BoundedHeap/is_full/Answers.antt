use Rattle.heap.proofs.Holdings.{full_is}
use Rattle.heap.proofs.bounded.BoundedHeap.is_full.Goals as goal

pub returns : goal.returns
returns g c = full_is g.T.TotalOrder.le c.self.inside.len c.self.inside.memory.now c.self.invariant.0 c.args.self.now c.self.view_is
