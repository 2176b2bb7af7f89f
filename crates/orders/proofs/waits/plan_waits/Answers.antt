use Rattle.std.proofs.Common.{◌<◌, List, length, get_or, sym, subst}
use Rattle.meetings.specs.declared.meet.Meeting.{Meeting}
use Rattle.orders.specs.Waits.{FitsMeeting}
use Rattle.orders.proofs.Sound.{plan_fits}
use Rattle.orders.proofs.Zipped.{no_meeting}
use Rattle.orders.proofs.waits.plan_waits.Goals as goal

pub wait_of-requires : goal.wait_of-requires
wait_of-requires c =
    let i = c.loop-meeting.meeting-index in
    let lt = subst (λ (ms : List Meeting). i < length ms) c.meetings-meeting-items.ensures.value c.loop-meeting-test.true in
    subst (λ (ms : List Meeting). FitsMeeting (get_or ms i no_meeting)) (sym c.meetings-meeting-items.ensures.value) (plan_fits c.meetings_stand.ensures.listed c.args.plan.now c.meetings-meeting-items.ensures.kept i lt)
