use Rattle.std.proofs.Common.{◌≡◌, ◌-◌, ◌≤◌, Result}
use Rattle.search.specs.Reaching.{Reaches}
use Rattle.search.specs.Steps.{go_on}
use Rattle.search.specs.declared.found.Found.{Found}
use Rattle.search.specs.declared.found.SearchFault.{SearchFault}
use Rattle.search.proofs.best_first.go_through.Given as goal

-- what the search may come to from here, it may come to from the start
abbrev pub invariant-loop-best : goal.invariant-loop-best
invariant-loop-best g l =
    let w = g.L.WaitingList in
    let p = g.P.Problem in
    let go = go_on (p.question l.fn.problem) (w.capacity l.fn.list) in
    record {
      within : l.taken ≤ l.budget;
      same : p.question l.problem ≡ p.question l.fn.problem;
      size : w.capacity l.list ≡ w.capacity l.fn.list;
      reach : (answer : Result Found SearchFault) (end : g.row.L.Denot)
          → Reaches w.nodes w.moves (go (l.budget - l.taken) l.taken l.best) answer l.list end
          → Reaches w.nodes w.moves (go l.budget 0 l.fn.best) answer l.fn.list end;
    }

abbrev pub decreases-loop-best : goal.decreases-loop-best
decreases-loop-best g l = l.budget - l.taken
