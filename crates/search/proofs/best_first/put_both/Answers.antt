use Rattle.std.proofs.Common.{inr}
use Rattle.search.proofs.Steps.{last}
use Rattle.search.proofs.best_first.put_both.Goals as goal

pub returns-clause-each : goal.returns-clause-each
returns-clause-each g c =
    let l = g.L.WaitingList in
    inr (c.put.new.self, c.in_ok-put.ensures.placed, c.put.ensures.size, last l.nodes l.moves l.capacity c.args.second c.put-2.result c.put.new.self c.put-2.new.self c.put-2.ensures.placed c.put-2.ensures.size)
