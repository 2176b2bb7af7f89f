use Rattle.std.proofs.Common.{Ok, subst}
use Rattle.run.specs.State.{State, count_on, scene_under}
use Rattle.run.specs.Timing.{TicksOf}
use Rattle.run.specs.Views.{state_in}
use Rattle.run.proofs.Timing.{answered_ok, answered_ring}
use Rattle.run.proofs.run.Driven.entry_ticks.Goals as goal

pub returns-in_err-work_out : goal.returns-in_err-work_out
returns-in_err-work_out c =
    let st = state_in c.self.inside in
    let orders = c.args.orders.now in
    subst (λ (st : State). TicksOf (scene_under st orders) (count_on st) c.from_residual.result c.work_out.new.self) c.self.view_is
    (answered_ring (scene_under st orders) (count_on st) c.from_residual.result c.work_out.new.self c.in_err-work_out.ensures.ring c.from_residual.ensures.1)

pub returns : goal.returns
returns c =
    let st = state_in c.self.inside in
    let orders = c.args.orders.now in
    subst (λ (st : State). TicksOf (scene_under st orders) (count_on st) (Ok tt) c.work_out.new.self) c.self.view_is
    (answered_ok (scene_under st orders) (count_on st) c.work_out.new.self c.in_ok-work_out.ensures.ticks)
