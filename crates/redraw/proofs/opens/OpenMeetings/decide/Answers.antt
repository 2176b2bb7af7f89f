use Rattle.std.proofs.Common.{◌≡◌, ◌⊎◌, inl, inr, ℕ, ◌<◌, List, length, slice_index, None, sym, ap, ap₂, ◌∙◌, subst, IsFalse, arith}
use Rattle.std.specs.Bool.{then_some}
use Rattle.meetings.specs.declared.meet.First.{First}
use Rattle.run.specs.Lawful.{first_at}
use Rattle.traffic.specs.Index.{order_at}
use Rattle.run.specs.Opens.{open_at, open_meetings, rank}
use Rattle.redraw.specs.Orders.{order_by, first_or_turned}
use Rattle.redraw.proofs.Filling.{Filled, filled_all}
use Rattle.redraw.proofs.Opening.{filled_there, order_there, low}
use Rattle.redraw.proofs.Wording.{closed_order}
use Rattle.redraw.proofs.opens.OpenMeetings.decide.Goals as goal

pub loop-bit-init : goal.loop-bit-init
loop-bit-init c =
    record { count = c.requires.count; each = each }
  where
    each : (j : ℕ) → j < length c.args.self.now.driven.now.firsts → (IsFalse (open_at c.args.self.now.driven.now j) ⊎ (rank c.args.self.now.driven.now j < 0)) → order_at c.args.orders.now j ≡ order_by c.args.self.now.driven.now c.args.decided c.args.turned j
    each j low (inl f) = c.requires.closed j low f ∙ sym (closed_order c.args.self.now.driven.now (c.runs_stand.ensures.opens c.args.self.now.driven.now) c.args.decided c.args.turned j f)
    each j low (inr less) = absurd (omega (arith, less))

pub first-first-requires : goal.first-first-requires
first-first-requires c =
    let self = c.args.self.now in
    let st = self.driven.now in
    low st (c.runs_stand.ensures.opens st) self.ordered c.as_slice-meeting-items.result.now (c.as_slice-meeting-items.ensures.value ∙ self.listed) c.loop-bit.bit c.loop-bit-test.true

pub offset_bounds-orders-meeting : goal.offset_bounds-orders-meeting
offset_bounds-orders-meeting c =
    let self = c.args.self.now in
    let st = self.driven.now in
    let there = low st (c.runs_stand.ensures.opens st) self.ordered c.as_slice-meeting-items.result.now (c.as_slice-meeting-items.ensures.value ∙ self.listed) c.loop-bit.bit c.loop-bit-test.true in
    omega (arith, there, self.ordered, self.fits)

pub bounds-orders-meeting : goal.bounds-orders-meeting
bounds-orders-meeting c =
    let self = c.args.self.now in
    let st = self.driven.now in
    omega (arith, c.loop-bit.invariant.count, low st (c.runs_stand.ensures.opens st) self.ordered c.as_slice-meeting-items.result.now (c.as_slice-meeting-items.ensures.value ∙ self.listed) c.loop-bit.bit c.loop-bit-test.true)

pub loop-bit-preserved : goal.loop-bit-preserved
loop-bit-preserved c =
    let self = c.args.self.now in
    let st = self.driven.now in
    let o = c.runs_stand.ensures.opens st in
    let numbers = c.as_slice-meeting-items.result.now in
    let listed = c.as_slice-meeting-items.ensures.value ∙ self.listed in
    let k = c.loop-bit.bit in
    let first = first_at st.firsts (slice_index numbers k) in
    let there = low st o self.ordered numbers listed k c.loop-bit-test.true in
    let is : c.then_some.result ≡ order_by st c.args.decided c.args.turned (slice_index numbers k) =
    c.then_some.ensures ∙ ap₂ (λ b (f : First). then_some b f) c.has_bit-in-loop-bit.ensures (c.first-first.ensures ∙ ap (λ b. first_or_turned b first) c.has_bit.ensures)
    ∙ order_there st o self.ordered numbers listed k c.loop-bit-test.true c.args.decided c.args.turned
    in
    filled_there st o self.ordered numbers listed k c.loop-bit-test.true (length st.firsts) (order_by st c.args.decided c.args.turned) None c.then_some.result c.loop-bit.orders there is c.loop-bit.invariant

pub returns : goal.returns
returns c =
    let self = c.args.self.now in
    let st = self.driven.now in
    let end : c.loop-bit.bit ≡ length (open_meetings st) = omega (arith, c.loop-bit-test.false, c.loop-bit.auto.bit-end, ap (λ (l : List ℕ). length l) (c.as_slice-meeting-items.ensures.value ∙ self.listed)) in
    filled_all st (length st.firsts) (order_by st c.args.decided c.args.turned) None (c.runs_stand.ensures.opens st) c.loop-bit.orders (subst (λ k. Filled st (length st.firsts) (order_by st c.args.decided c.args.turned) None k c.loop-bit.orders) end c.loop-bit.invariant)
