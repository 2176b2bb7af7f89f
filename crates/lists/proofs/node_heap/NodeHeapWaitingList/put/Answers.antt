use Rattle.lists.proofs.Placing.{placed}
use Rattle.lists.proofs.node_heap.NodeHeapWaitingList.put.Goals as goal

pub returns-clause-placed : goal.returns-clause-placed
returns-clause-placed c = (placed c.rows_stand.ensures.place c.args.node c.put.result c.args.self.now c.put.new.self c.put.ensures).0

pub returns-clause-size : goal.returns-clause-size
returns-clause-size c = (placed c.rows_stand.ensures.place c.args.node c.put.result c.args.self.now c.put.new.self c.put.ensures).1
