use Rattle.std.proofs.Common.{◌<◌, length, get_or, Some, List, sym, ap, ◌∙◌, subst}
use Rattle.meetings.specs.declared.meet.Meeting.{Meeting}
use Rattle.orders.specs.Waits.{wait_under, wait_by_number, FitsMeeting}
use Rattle.orders.proofs.Zipped.{no_meeting, wait_in, wait_out}
use Rattle.orders.proofs.Sound.{plan_fits}
use Rattle.orders.proofs.waits.wait_at.Goals as goal

pub wait_of-requires : goal.wait_of-requires
wait_of-requires c =
    let met = c.in_ok-met.ensures.lookup.3 in
    let lt = subst (λ (ms : List Meeting). c.args.meeting < length ms) c.meetings.ensures.value met.0 in
    subst FitsMeeting (sym (met.1 no_meeting ∙ ap (λ ms. get_or ms c.args.meeting no_meeting) c.meetings.ensures.value)) (plan_fits c.meetings_stand.ensures.listed c.args.plan.now c.meetings.ensures.kept c.args.meeting lt)

pub returns : goal.returns
returns c =
    let met = c.in_ok-met.ensures.lookup.3 in
    ap Some (c.wait_of.ensures ∙ ap (λ m. wait_under m c.args.first) (met.1 no_meeting))
    ∙ sym (wait_in c.meetings.result.now c.args.meeting c.args.first met.0)
    ∙ ap (λ (ms : List Meeting). wait_by_number ms c.args.meeting c.args.first) c.meetings.ensures.value

pub returns-in_err-met : goal.returns-in_err-met
returns-in_err-met c =
    c.from_residual.ensures
    ∙ sym (wait_out c.meetings.result.now c.args.meeting c.args.first c.in_err-met.ensures.lookup.3)
    ∙ ap (λ (ms : List Meeting). wait_by_number ms c.args.meeting c.args.first) c.meetings.ensures.value
