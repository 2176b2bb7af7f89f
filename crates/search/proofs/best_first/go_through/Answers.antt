use Rattle.std.proofs.Common.{rules, ◌≡◌, ◌∙◌, ◌+◌, ◌-◌, suc, IsErr, IsOk, arith}
use Rattle.search.proofs.Steps.{step_off, step_on}
use Rattle.search.proofs.best_first.go_through.Goals as goal

pub returns-then-is_err-clause-course : goal.returns-then-is_err-clause-course
returns-then-is_err-clause-course g c end cleared =
    let w = g.L.WaitingList in
    let i = c.loop-best.invariant in
    let t = c.loop-best.taken in
    let one_more : c.args.budget - t ≡ suc (c.args.budget - (t + 1)) = omega (arith, i.within) in
    let err : IsErr c.visit.result = search rules in
    i.reach _ end (step_off w.nodes w.moves w.capacity (g.P.Problem.question c.args.problem.now) (w.capacity c.args.list.now) (c.args.budget - t) (c.args.budget - (t + 1)) t one_more c.loop-best.best c.in-Some.node c.visit.result c.loop-best.list c.take.new.self c.visit.new.list c.take.ensures.allowed c.in-Some.ensures.first (rw i.same at c.visit.ensures.each) (c.take.ensures.size ∙ i.size) end err cleared)

pub loop-best-preserved : goal.loop-best-preserved
loop-best-preserved g c =
    let w = g.L.WaitingList in
    let q = g.P.Problem.question in
    let i = c.loop-best.invariant in
    let t = c.loop-best.taken in
    let one_more : c.args.budget - t ≡ suc (c.args.budget - (t + 1)) = omega (arith, i.within) in
    let ok : IsOk c.visit.result = search rules in
    let next = rw i.same at c.visit.ensures.best in
    record {
      within = omega (arith, i.within, c.if-taken-budget.false);
      same = c.visit.ensures.same ∙ i.same;
      size = c.visit.ensures.size ∙ c.take.ensures.size ∙ i.size;
      reach = λ answer end reach. i.reach answer end (step_on w.nodes w.moves w.capacity (q c.args.problem.now) (w.capacity c.args.list.now) (c.args.budget - t) (c.args.budget - (t + 1)) t one_more c.loop-best.best c.in-Some.node c.visit.result c.loop-best.list c.take.new.self c.visit.new.list c.take.ensures.allowed c.in-Some.ensures.first (rw i.same at c.visit.ensures.each) (c.take.ensures.size ∙ i.size) c.visit.new.best answer end next ok reach);
    }
