use Rattle.std.proofs.Common.{◌==◌, sym, ap}
use Rattle.heap.proofs.Holdings.{row_long}
use Rattle.heap.proofs.bounded.BoundedHeap.is_empty.Goals as goal

pub returns : goal.returns
returns g c = ap (λ n. n == 0) (sym (row_long g.T.TotalOrder.le c.self.inside.len c.self.inside.memory.now c.self.invariant.0 c.args.self.now c.self.view_is))
