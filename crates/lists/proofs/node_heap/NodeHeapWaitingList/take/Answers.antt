use Rattle.lists.proofs.Placing.{taken}
use Rattle.lists.proofs.node_heap.NodeHeapWaitingList.take.Goals as goal

pub returns-clause-allowed : goal.returns-clause-allowed
returns-clause-allowed c = taken c.take_first.result c.args.self.now c.take_first.new.self c.take_first.ensures
