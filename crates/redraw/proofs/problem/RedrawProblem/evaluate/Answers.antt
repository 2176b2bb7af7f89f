use Rattle.std.proofs.Common.{◌≡◌, List, Option, IsErr, IsOk, length, ap, ap₂, ◌∙◌, sym, subst, rules}
use Rattle.meetings.specs.declared.meet.First.{First}
use Rattle.costs.specs.Totals.{total}
use Rattle.redraw.specs.Nodes.{found_by}
use Rattle.redraw.specs.Orders.{KeepsClosed}
use Rattle.redraw.proofs.Evaluating.{found_ok, found_ring, keeps_closed, refilled}
use Rattle.redraw.proofs.problem.RedrawProblem.evaluate.Goals as goal

pub invariant_of-self : goal.invariant_of-self
invariant_of-self g c =
    let self = c.args.self.now in
    let st = self.opens.now.driven.now in
    let long : length c.decide.new.orders ≡ length self.orders.items = c.decide.auto.orders ∙ ap (λ (l : List (Option First)). length l) c.as_mut_slice.ensures.value in
    record {
      closed = subst (KeepsClosed st) (sym (refilled self.orders.items c.decide.new.orders long ∙ c.decide.ensures)) (keeps_closed st (c.runs_stand.ensures.opens st) c.args.decided c.args.turned);
      started = self.started;
      searchable = self.searchable;
    }

pub returns-then-is_err-clause-found : goal.returns-then-is_err-clause-found
returns-then-is_err-clause-found g c =
    let self = c.args.self.now in
    let st = self.opens.now.driven.now in
    let cost = self.cost.now in
    let long : length c.decide.new.orders ≡ length self.orders.items = c.decide.auto.orders ∙ ap (λ (l : List (Option First)). length l) c.as_mut_slice.ensures.value in
    let are = c.as_slice.ensures.value ∙ refilled self.orders.items c.decide.new.orders long ∙ c.decide.ensures in
    let err : IsErr c.entry_ticks-ticks.result = search rules in
    found_ring st (c.runs_stand.ensures.opens st) (g.C.Cost.start cost) (g.C.Cost.next cost) c.args.decided c.args.turned c.as_slice.result.now are c.entry_ticks-ticks.result self.timetable c.entry_ticks-ticks.new.timetable c.entry_ticks-ticks.ensures err

pub returns-in-None-clause-found : goal.returns-in-None-clause-found
returns-in-None-clause-found g c =
    let self = c.args.self.now in
    let st = self.opens.now.driven.now in
    let cost = self.cost.now in
    let long : length c.decide.new.orders ≡ length self.orders.items = c.decide.auto.orders ∙ ap (λ (l : List (Option First)). length l) c.as_mut_slice.ensures.value in
    let are = c.as_slice.ensures.value ∙ refilled self.orders.items c.decide.new.orders long ∙ c.decide.ensures in
    let ok : IsOk c.entry_ticks-ticks.result = search rules in
    ap₂ found_by (c.total-cost.ensures.value ∙ ap (total (g.C.Cost.start cost) (g.C.Cost.next cost)) c.arrivals.ensures.value) (sym c.in-None.is ∙ c.lowest.ensures)
    ∙ found_ok st (c.runs_stand.ensures.opens st) (g.C.Cost.start cost) (g.C.Cost.next cost) c.args.decided c.args.turned c.as_slice.result.now are c.entry_ticks-ticks.result self.timetable c.entry_ticks-ticks.new.timetable c.entry_ticks-ticks.ensures ok

pub returns-in-Some-clause-found : goal.returns-in-Some-clause-found
returns-in-Some-clause-found g c =
    let self = c.args.self.now in
    let st = self.opens.now.driven.now in
    let cost = self.cost.now in
    let long : length c.decide.new.orders ≡ length self.orders.items = c.decide.auto.orders ∙ ap (λ (l : List (Option First)). length l) c.as_mut_slice.ensures.value in
    let are = c.as_slice.ensures.value ∙ refilled self.orders.items c.decide.new.orders long ∙ c.decide.ensures in
    let ok : IsOk c.entry_ticks-ticks.result = search rules in
    ap₂ found_by (c.total-cost.ensures.value ∙ ap (total (g.C.Cost.start cost) (g.C.Cost.next cost)) c.arrivals.ensures.value) (sym c.in-Some.is ∙ c.lowest.ensures)
    ∙ found_ok st (c.runs_stand.ensures.opens st) (g.C.Cost.start cost) (g.C.Cost.next cost) c.args.decided c.args.turned c.as_slice.result.now are c.entry_ticks-ticks.result self.timetable c.entry_ticks-ticks.new.timetable c.entry_ticks-ticks.ensures ok
