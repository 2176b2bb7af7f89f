use Rattle.std.proofs.Common.{nat_lt, sym, ap, ap₂, ◌∙◌}
use Rattle.std.proofs.lemmas.Option.{same_Some, none-some}
use Rattle.orders.specs.declared.waits.Wait.{Wait}
use Rattle.traffic.specs.Scene.{number}
use Rattle.redraw.specs.Nodes.{numbers_of}
use Rattle.redraw.proofs.Opening.{wait_there}
use Rattle.redraw.proofs.opens.OpenMeetings.leaves_before.Goals as goal

pub unreachable-requires : goal.unreachable-requires
unreachable-requires c =
    let self = c.args.self.now in
    let st = self.driven.now in
    none-some _ (sym c.in-None.is ∙ c.wait_at.ensures ∙ wait_there st self.ordered c.plan.result.now c.firsts.result.now c.args.meeting c.plan.ensures.value c.firsts.ensures c.requires)

pub returns : goal.returns
returns c =
    let self = c.args.self.now in
    let st = self.driven.now in
    let e = numbers_of c.args.timetable.now in
    let same = same_Some _ _ (sym c.in-Some.is ∙ c.wait_at.ensures ∙ wait_there st self.ordered c.plan.result.now c.firsts.result.now c.args.meeting c.plan.ensures.value c.firsts.ensures c.requires) in
    ap₂ (λ x y. nat_lt x y) c.tick.ensures c.tick-in-Some.ensures ∙ ap (λ (w : Wait). nat_lt (number e w.awaited) (number e w.second)) same
