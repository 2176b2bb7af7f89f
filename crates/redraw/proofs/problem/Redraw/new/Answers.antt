use Rattle.std.proofs.Common.{◌≤◌, List, ℕ, length, ap, ◌∙◌, subst}
use Rattle.costs.specs.Laws.{IsCost}
use Rattle.costs.specs.Totals.{total}
use Rattle.redraw.specs.Laws.{CanRedraw}
use Rattle.redraw.proofs.Evaluating.{cost_now}
use Rattle.redraw.proofs.problem.Redraw.new.Goals as goal

pub invariant_of-result : goal.invariant_of-result
invariant_of-result g c =
    let opens = c.args.opens.now in
    let st = opens.driven.now in
    let cost = c.args.cost.now in
    let rule = g.C.Cost in
    let laws = g.met.C.Cost in
    let keeps : IsCost (rule.start cost) (rule.next cost) = record { later = laws.later cost; greater = laws.greater cost; fits = laws.fits cost } in
    let can : CanRedraw st = record { sound = c.requires; few = subst (λ (l : List ℕ). length l ≤ 64) opens.listed opens.few } in
    record {
      closed = c.in_force.ensures;
      started = c.total-start.ensures.value ∙ ap (total (rule.start cost) (rule.next cost)) c.arrivals.ensures.value ∙ cost_now st (rule.start cost) (rule.next cost) c.expected.new.timetable c.expected.ensures;
      searchable = c.redraws_stand.ensures.searchable (rule.start cost) (rule.next cost) st keeps can;
    }
