use Rattle.heap.proofs.Holdings.{taken_out}
use Rattle.heap.proofs.Orders.{order_by}
use Rattle.heap.proofs.bounded.BoundedHeap.take_first.Goals as goal

pub returns : goal.returns
returns g c =
    let le = g.T.TotalOrder.le in
    let m = g.met.T.TotalOrder in
    let o = order_by m.total m.transitive m.antisymmetric in
    taken_out le c.self.inside.len c.self.inside.memory.now c.self.invariant.0 c.args.self.now c.self.view_is o c.in_ok-first.first c.take_first.new.memory c.take_first.auto.memory c.in_ok-first.ensures
