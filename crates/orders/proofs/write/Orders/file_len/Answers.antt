use Rattle.std.proofs.Common.{◌≡◌, ◌≤◌, ◌+◌, ◌*◌, length, ap, sym, ◌∙◌, arith}
use Rattle.meetings.specs.declared.meet.TheConstants.{MOST_MEETINGS}
use Rattle.orders.specs.Plans.{orders_length}
use Rattle.orders.proofs.Lengths.{length-orders}
use Rattle.orders.proofs.Sound.{plan_meetings, meetings_ordered}
use Rattle.orders.proofs.write.Orders.file_len.Goals as goal

pub returns : goal.returns
returns c =
    let p = c.args.self.now.plan.now in
    let fs = c.args.self.now.firsts.now in
    let kept = c.meetings.ensures.kept in
    let few : length p.meetings ≤ MOST_MEETINGS = plan_meetings p kept in
    let value : 2 + 4 * c.shuttles.result + 6 * c.min-waits.result ≡ orders_length p fs = omega (arith, c.shuttles.ensures.value, c.min-waits.ensures, ap length c.meetings.ensures.value) in
    record {
      bytes = value ∙ sym (length-orders c.joins_stand.ensures (length p.paths) p.meetings fs (meetings_ordered c.meetings_stand.ensures.listed p kept));
      value = value;
      few = omega (arith, c.shuttles.ensures.few);
    }
