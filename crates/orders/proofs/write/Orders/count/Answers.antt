use Rattle.std.proofs.Common.{length, ap, ◌∙◌, arith}
use Rattle.orders.specs.Waits.{waits, body_of}
use Rattle.orders.proofs.Sound.{plan_meetings}
use Rattle.orders.proofs.Zipped.{count_is, count_few}
use Rattle.orders.proofs.write.Orders.count.Goals as goal

pub returns : goal.returns
returns c =
    let met = c.meetings.result.now in
    let fs = c.args.self.now.firsts.now in
    record {
      count = c.count_second.ensures ∙ count_is met fs c.args.shuttle ∙ ap (λ ms. length (body_of c.args.shuttle (waits ms fs))) c.meetings.ensures.value;
      few = omega (arith, c.count_second.ensures, count_few met fs c.args.shuttle, ap length c.meetings.ensures.value, plan_meetings c.args.self.now.plan.now c.meetings.ensures.kept);
    }
