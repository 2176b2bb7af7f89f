use Rattle.std.proofs.Common.{◌≡◌, sym, subst, Result}
use Rattle.search.specs.Laws.{SameCost}
use Rattle.search.specs.Reaching.{Searches}
use Rattle.search.specs.declared.found.Found.{Found}
use Rattle.search.specs.declared.found.SearchFault.{SearchFault}
use Rattle.search.proofs.tests.both.Goals as goal

same_by : {r s t u : Result Found SearchFault} → r ≡ t → s ≡ u → SameCost t u → SameCost r s
same_by {r} {s} {t} {u} p q h = subst (λ r. SameCost r s) (sym p) (subst (λ s. SameCost t s) (sym q) h)

pub returns : goal.returns
returns g c =
    let a = c.search-first.ensures.course in
    let w = g.M.WaitingList in
    let other = c.args.other.now in
    let b : Searches w.nodes w.moves (g.P.Problem.question c.args.problem.now) (w.capacity other) 7 c.search-second.result other c.search-second.new.list = rw c.search-first.ensures.same at c.search-second.ensures.course in
    same_by a.answers b.answers
    (c.searches_stand.ensures.same (g.P.Problem.question c.args.problem.now) (g.met.P.Problem.searchable c.args.problem.now) (g.L.WaitingList.capacity c.args.list.now) 100 a.places (w.capacity other) 7 b.places)
