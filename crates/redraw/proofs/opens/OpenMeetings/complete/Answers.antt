use Rattle.std.proofs.Common.{◌≡◌, ◌⊎◌, inl, inr, ℕ, ◌<◌, List, length, slice_index, sym, ap, ◌∙◌, subst, IsFalse, arith}
use Rattle.meetings.specs.declared.meet.First.{First}
use Rattle.meetings.specs.declared.meet.First.TheVariants.{Lower}
use Rattle.run.specs.Lawful.{first_at}
use Rattle.run.specs.Opens.{open_at, open_meetings, rank}
use Rattle.redraw.specs.Orders.{first_by, first_or_turned}
use Rattle.redraw.proofs.Filling.{Filled, filled_all}
use Rattle.redraw.proofs.Opening.{filled_there, first_there, low}
use Rattle.redraw.proofs.Wording.{closed_by}
use Rattle.redraw.proofs.opens.OpenMeetings.complete.Goals as goal

pub loop-bit-init : goal.loop-bit-init
loop-bit-init c = record { count = ap (λ (l : List First). length l) (c.new-orders.ensures ∙ c.firsts.ensures); each = each }
  where
    each : (j : ℕ) → j < length c.args.self.now.driven.now.firsts → (IsFalse (open_at c.args.self.now.driven.now j) ⊎ (rank c.args.self.now.driven.now j < 0)) → first_at c.new-orders.result j ≡ first_by c.args.self.now.driven.now c.args.turned j
    each j low (inl f) = ap (λ fs. first_at fs j) (c.new-orders.ensures ∙ c.firsts.ensures) ∙ sym (closed_by c.args.self.now.driven.now (c.runs_stand.ensures.opens c.args.self.now.driven.now) c.args.turned j f)
    each j low (inr less) = absurd (omega (arith, less))

pub first-requires : goal.first-requires
first-requires c =
    let self = c.args.self.now in
    let st = self.driven.now in
    low st (c.runs_stand.ensures.opens st) self.ordered c.as_slice-meeting-items.result.now (c.as_slice-meeting-items.ensures.value ∙ self.listed) c.loop-bit.bit c.loop-bit-test.true

pub set-requires : goal.set-requires
set-requires c =
    let self = c.args.self.now in
    let st = self.driven.now in
    omega (arith, c.loop-bit.invariant.count, low st (c.runs_stand.ensures.opens st) self.ordered c.as_slice-meeting-items.result.now (c.as_slice-meeting-items.ensures.value ∙ self.listed) c.loop-bit.bit c.loop-bit-test.true)

pub loop-bit-preserved : goal.loop-bit-preserved
loop-bit-preserved c =
    let self = c.args.self.now in
    let st = self.driven.now in
    let o = c.runs_stand.ensures.opens st in
    let numbers = c.as_slice-meeting-items.result.now in
    let listed = c.as_slice-meeting-items.ensures.value ∙ self.listed in
    let k = c.loop-bit.bit in
    let there = low st o self.ordered numbers listed k c.loop-bit-test.true in
    let is : c.first.result ≡ first_by st c.args.turned (slice_index numbers k) = c.first.ensures ∙ ap (λ b. first_or_turned b (first_at st.firsts (slice_index numbers k))) c.has_bit.ensures ∙ first_there st o self.ordered numbers listed k c.loop-bit-test.true c.args.turned in
    rw c.set.ensures (filled_there st o self.ordered numbers listed k c.loop-bit-test.true (length st.firsts) (first_by st c.args.turned) Lower c.first.result c.loop-bit.orders there is c.loop-bit.invariant)

pub returns : goal.returns
returns c =
    let self = c.args.self.now in
    let st = self.driven.now in
    let end : c.loop-bit.bit ≡ length (open_meetings st) = omega (arith, c.loop-bit-test.false, c.loop-bit.auto.bit-end, ap (λ (l : List ℕ). length l) (c.as_slice-meeting-items.ensures.value ∙ self.listed)) in
    filled_all st (length st.firsts) (first_by st c.args.turned) Lower (c.runs_stand.ensures.opens st) c.loop-bit.orders (subst (λ k. Filled st (length st.firsts) (first_by st c.args.turned) Lower k c.loop-bit.orders) end c.loop-bit.invariant)
