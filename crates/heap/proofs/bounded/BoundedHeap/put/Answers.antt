use Rattle.std.proofs.lemmas.Result.{err_from_is_err_and}
use Rattle.heap.proofs.Holdings.{put_in, put_refused}
use Rattle.heap.proofs.Orders.{order_by}
use Rattle.heap.proofs.bounded.BoundedHeap.put.Goals as goal

pub returns-in_err-put : goal.returns-in_err-put
returns-in_err-put g c =
    let p = err_from_is_err_and c.from_residual.result c.from_residual.ensures.1 in
    rw (p.1) (put_refused g.T.TotalOrder.le c.self.inside.len c.self.inside.memory.now c.self.invariant.0 c.args.self.now c.self.view_is c.put.new.memory c.in_err-put.ensures)

pub returns : goal.returns
returns g c =
    let m = g.met.T.TotalOrder in
    let o = order_by m.total m.transitive m.antisymmetric in
    put_in g.T.TotalOrder.le c.self.inside.len c.self.inside.memory.now c.self.invariant.0 c.args.self.now c.self.view_is o c.args.x c.put.new.memory c.put.auto.memory c.in_ok-put.ensures
