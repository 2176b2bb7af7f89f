use Rattle.dispatch.specs.Lists.{cost_rules, list_rules}
use Rattle.dispatch.proofs.Carrying.{CarriesFirst}
use Rattle.dispatch.proofs.dispatcher.Dispatcher.carry_all.Given as goal

abbrev pub invariant-loop-entry : goal.invariant-loop-entry
invariant-loop-entry g l =
    let w = g.L.WaitingList in
    CarriesFirst (cost_rules g.C.Cost.start g.C.Cost.next) (list_rules w.nodes w.moves w.capacity) g.W.Watch.saw l.fn.entries l.fn.pockets l.fn.watch l.fn.self l.entry-index l.entries l.pockets l.watch l.self
