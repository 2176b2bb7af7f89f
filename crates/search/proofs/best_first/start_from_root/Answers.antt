use Rattle.std.proofs.Common.{rules, [], refl}
use Rattle.search.specs.Steps.{go_on}
use Rattle.search.proofs.Steps.{entered, enters}
use Rattle.search.proofs.best_first.start_from_root.Goals as goal

pub returns-clause-course : goal.returns-clause-course
returns-clause-course g c end cleared =
    let w = g.L.WaitingList in
    let q = g.P.Problem.question c.args.problem.now in
    let room = w.capacity c.args.list.now in
    entered w.nodes w.moves w.capacity room 0 (record { bound = 0; decided = 0; turned = 0 }) [] (go_on q room c.args.budget 0 (record { turned = 0; cost = q.start })) c.args.list.now c.put.new.self c.go_through.result end (enters w.nodes w.moves w.capacity (record { bound = 0; decided = 0; turned = 0 }) c.put.result c.args.list.now c.put.new.self (search rules) c.put.ensures.placed) refl
    (rw (← c.start.ensures, ← c.put.ensures.size) (c.go_through.ensures.course end cleared))
