use Rattle.heap.proofs.Holdings.{row_ascends, row_keeps}
use Rattle.heap.proofs.Orders.{order_by}
use Rattle.heap.proofs.bounded.BoundedHeap.as_slice.Goals as goal

pub returns : goal.returns
returns g c =
    let le = g.T.TotalOrder.le in
    let h = c.self.inside in
    let m = g.met.T.TotalOrder in
    let o = order_by m.total m.transitive m.antisymmetric in
    record {
      same = row_keeps le h.len h.memory.now c.self.invariant.0 c.args.self.now c.self.view_is;
      ascends = row_ascends le h.len h.memory.now c.self.invariant.0 c.args.self.now c.self.view_is o;
    }
