use Rattle.std.proofs.Common.{◌≡◌, ◌↔◌, List, length, refl, sym, ap, ◌∙◌, subst, IsTrue, arith}
use Rattle.meetings.specs.declared.meet.Meeting.{Meeting}
use Rattle.plans.specs.Kept.{OpenedPlan}
use Rattle.run.specs.Lawful.{Agrees, LawfulFor}
use Rattle.run.specs.State.{State, meetings_on}
use Rattle.run.specs.Views.{state_in}
use Rattle.run.proofs.Timing.{judged_lawful}
use Rattle.run.proofs.run.Driven.is_lawful.Goals as goal

pub returns : goal.returns
returns c =
    let st = state_in c.self.inside in
    let orders = c.args.orders.now in
    let agree : Agrees st orders = subst (λ (st : State). Agrees st orders) (sym c.self.view_is) (c.if-not-agrees.ensures.0 refl) in
    let listed : c.meetings.result.now ≡ meetings_on st = c.meetings.ensures.value ∙ ap (λ (p : OpenedPlan). p.meetings) c.plan.ensures.value ∙ ap (λ (st : State). meetings_on st) (sym c.self.view_is) in
    let count : length orders ≡ length (meetings_on st) = omega (arith, c.if-orders-meetings.false, ap (λ (ms : List Meeting). length ms) listed) in
    subst (λ (st : State). IsTrue c.is_ok.result ↔ LawfulFor st orders) c.self.view_is
    (judged_lawful st orders c.work_out.new.self c.work_out.result c.is_ok.result c.is_ok.ensures.value c.work_out.ensures.ticks c.work_out.ensures.ring count agree)
