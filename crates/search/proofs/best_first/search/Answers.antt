use Rattle.std.proofs.Common.{◌∙◌, sym, subst, IfOk, IsOk, Result}
use Rattle.search.specs.Questions.{Least}
use Rattle.search.specs.Reaching.{Searches}
use Rattle.search.specs.declared.found.Found.{Found}
use Rattle.search.specs.declared.found.SearchFault.{SearchFault}
use Rattle.search.proofs.Depths.{found_in_room}
use Rattle.search.proofs.Optimal.{finds_least}
use Rattle.search.proofs.Steps.{searches}
use Rattle.search.proofs.best_first.search.Goals as goal

pub returns : goal.returns
returns g c =
    let w = g.L.WaitingList in
    let q = g.P.Problem.question c.args.problem.now in
    let searchable = g.met.P.Problem.searchable c.args.problem.now in
    let room = w.capacity c.args.list.now in
    let answer = c.start_from_root-answer.result in
    let from = rw c.clear.ensures.size at (c.start_from_root-answer.ensures.course c.clear-2.new.self (c.clear-2.ensures.allowed, c.clear-2.ensures.empty)) in
    let course : Searches w.nodes w.moves q room c.args.budget answer c.args.list.now c.clear-2.new.self = searches w.nodes w.moves w.capacity q room c.args.budget answer c.args.list.now c.clear.new.self c.clear-2.new.self (c.clear.ensures.allowed, c.clear.ensures.empty) from in
    record {
      course = course;
      least = subst (λ (r : Result Found SearchFault). IfOk r (λ found. Least q found.turned found.cost)) (sym course.answers) (finds_least q searchable room c.args.budget course.places);
      finds = λ wide long. subst (λ (r : Result Found SearchFault). IsOk r) (sym course.answers) (found_in_room q searchable w.nodes w.moves room c.args.budget course.places c.args.list.now c.clear-2.new.self course.leads wide long);
      same = c.start_from_root-answer.ensures.same;
      empty = c.clear-2.ensures.empty;
      size = c.clear-2.ensures.size ∙ c.start_from_root-answer.ensures.size ∙ c.clear.ensures.size;
    }
