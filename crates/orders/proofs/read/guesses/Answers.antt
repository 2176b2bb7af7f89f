use Rattle.std.proofs.Common.{◌≡◌, ℕ, ◌+◌, ◌<◌, List, length, get_or, vec_items, sym, ap, ◌∙◌, subst, arith, below_more}
use Rattle.std.proofs.lemmas.List.{get_or_append_left, get_or_push, length_push}
use Rattle.meetings.specs.declared.meet.First.{First}
use Rattle.meetings.specs.declared.meet.First.TheVariants.{Lower}
use Rattle.meetings.specs.declared.meet.Meeting.{Meeting}
use Rattle.orders.specs.Reading.{Guessed}
use Rattle.orders.specs.Waits.{FitsMeeting}
use Rattle.orders.proofs.Sound.{plan_fits}
use Rattle.orders.proofs.Zipped.{no_meeting}
use Rattle.orders.proofs.read.guesses.Goals as goal

pub guess-requires : goal.guess-requires
guess-requires c =
    let i = c.loop-meeting.meeting-index in
    let lt = subst (λ (ms : List Meeting). i < length ms) c.meetings-meeting-items.ensures.value c.loop-meeting-test.true in
    subst (λ (ms : List Meeting). FitsMeeting (get_or ms i no_meeting)) (sym c.meetings-meeting-items.ensures.value) (plan_fits c.meetings_stand.ensures.listed c.args.plan.now c.meetings-meeting-items.ensures.kept i lt)

pub loop-meeting-preserved : goal.loop-meeting-preserved
loop-meeting-preserved c =
    let old = vec_items c.loop-meeting.firsts in
    let bs = c.args.bytes.now in
    let ms = c.meetings-meeting-items.result.now in
    let items = c.in_ok-push.ensures.items in
    let At : ℕ → First → Type 0 = λ j f. Guessed bs (get_or ms j no_meeting) f in
    let P : ℕ → Type 0 = λ j. At j (get_or (vec_items c.push.new.self) j Lower) in (
      ap length items ∙ length_push old c.guess.result ∙ ap (λ k. k + 1) c.loop-meeting.invariant.0,
      below_more P c.loop-meeting.meeting-index
          (λ j lt. subst (At j) (sym (ap (λ l. get_or l j Lower) items ∙ get_or_append_left old _ Lower j (omega (arith, c.loop-meeting.invariant.0)))) (c.loop-meeting.invariant.1 j lt))
          (subst (At c.loop-meeting.meeting-index) (sym (ap (λ l. get_or l c.loop-meeting.meeting-index Lower) items ∙ get_or_push old c.guess.result Lower c.loop-meeting.meeting-index c.loop-meeting.invariant.0)) c.guess.ensures),
    )

pub returns-clause-value : goal.returns-clause-value
returns-clause-value c =
    let is = c.meetings-meeting-items.ensures.value in
    let n : length (vec_items c.loop-meeting.firsts) ≡ length c.meetings-meeting-items.result.now = omega (arith, c.loop-meeting.invariant.0) in (
      n ∙ ap length is,
      λ k lt. subst (λ (ms : List Meeting). Guessed c.args.bytes.now (get_or ms k no_meeting) (get_or (vec_items c.loop-meeting.firsts) k Lower)) is (c.loop-meeting.invariant.1 k (omega (arith, ap length is))),
    )
