use Rattle.std.proofs.Common.{◌≡◌, ◌+◌, ◌≤◌, ◌⊎◌, inl, inr, refl, [], ◌∷◌, ◌++◌, length, sym, ap, ◌∙◌, subst, arith}
use Rattle.std.proofs.lemmas.List.{length-append}
use Rattle.std.specs.List.{AllByRecursion}
use Rattle.orders.specs.File.{wait_bytes, body_bytes, over}
use Rattle.orders.specs.Plans.{waits_of}
use Rattle.orders.specs.Waits.{waits, FitsMeeting}
use Rattle.orders.proofs.Bodies.{body_own}
use Rattle.orders.proofs.Buffers.{over_none, over_more}
use Rattle.orders.proofs.Sound.{meetings_fit}
use Rattle.orders.proofs.Zipped.{waits_ended}
use Rattle.orders.proofs.write.Orders.put_body.Goals as goal

pub loop-meeting-init : goal.loop-meeting-init
loop-meeting-init c =
    let plan = c.args.self.now.plan.now in
    let s = c.args.shuttle in
    let ms : c.into_iter-meeting-iterator.result.a.rest.now ≡ plan.meetings = cc in
    let fs : c.into_iter-meeting-iterator.result.b.rest.now ≡ c.args.self.now.firsts.now = cc in
    let same : body_bytes (waits c.into_iter-meeting-iterator.result.a.rest.now c.into_iter-meeting-iterator.result.b.rest.now) s ≡ body_bytes (waits_of c.args.self.now) s = (λ i. body_bytes (waits (ms i) (fs i)) s) in
    (ap (over c.args.out.now c.args.at) same, ap (λ bs. c.args.at + length bs) same, subst (AllByRecursion FitsMeeting) (sym ms) (meetings_fit c.meetings_stand.ensures.listed plan c.meetings.ensures.kept))

pub loop-meeting-preserved-then-wait-shuttle : goal.loop-meeting-preserved-then-wait-shuttle
loop-meeting-preserved-then-wait-shuttle c =
    let s = c.args.shuttle in
    let out = c.loop-meeting.out in
    let next = c.loop-meeting.next in
    let w = c.wait_of-wait.result in
    let steps = c.in-Some.ensures.steps in
    let rest = waits c.next.new.self.a.rest.now c.next.new.self.b.rest.now in
    let left : waits c.loop-meeting.meeting-iterator.a.rest.now c.loop-meeting.meeting-iterator.b.rest.now ≡ w ∷ rest = (λ i. waits (steps.0 i) (steps.1 i)) ∙ ap (λ x. x ∷ rest) (sym c.wait_of-wait.ensures) in
    let grown : body_bytes (waits c.loop-meeting.meeting-iterator.a.rest.now c.loop-meeting.meeting-iterator.b.rest.now) s ≡ wait_bytes w ++ body_bytes rest s = ap (λ ws. body_bytes ws s) left ∙ body_own s w rest c.if-wait-shuttle.true in
    let long : next + 6 + length (body_bytes rest s) ≡ c.args.at + length (body_bytes (waits_of c.args.self.now) s) = omega (arith, c.loop-meeting.invariant.1, ap length grown, length-append (wait_bytes w) (body_bytes rest s)) in
    let room : next + 6 + length (body_bytes rest s) ≤ length out = omega (arith, c.requires, c.loop-meeting.auto.out) in
    (ap (λ o. over o (next + 6) (body_bytes rest s)) c.put_wait.ensures ∙ over_more out next (wait_bytes w) (body_bytes rest s) (next + 6) refl room ∙ ap (over out next) (sym grown) ∙ c.loop-meeting.invariant.0, long, (subst (AllByRecursion FitsMeeting) steps.0 c.loop-meeting.invariant.2).1)

pub returns : goal.returns
returns c =
    let over-one : (length c.loop-meeting.meeting-iterator.a.rest.now ≡ 0) ⊎ (length c.loop-meeting.meeting-iterator.b.rest.now ≡ 0) = elim c.in-None.ensures.steps [ inl x ↦ inl x.1.0 | inr x ↦ inr x.1.0 ] in
    let left : body_bytes (waits c.loop-meeting.meeting-iterator.a.rest.now c.loop-meeting.meeting-iterator.b.rest.now) c.args.shuttle ≡ [] = ap (λ ws. body_bytes ws c.args.shuttle) (waits_ended _ _ over-one) in
    record {
      bytes = sym (ap (over c.loop-meeting.out c.loop-meeting.next) left ∙ over_none c.loop-meeting.out c.loop-meeting.next) ∙ c.loop-meeting.invariant.0;
      next = omega (arith, c.loop-meeting.invariant.1, ap length left);
    }
