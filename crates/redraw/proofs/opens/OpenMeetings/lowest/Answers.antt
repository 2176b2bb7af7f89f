use Rattle.std.proofs.Common.{◌≡◌, ℕ, false, List, length, slice_index, sym, ap, ◌∙◌, arith}
use borrow.Author.Count.{below_more}
use Rattle.run.specs.Opens.{open_meetings}
use Rattle.redraw.specs.Nodes.{numbers_of, violates}
use Rattle.redraw.proofs.Lowest.{first_is, none_is}
use Rattle.redraw.proofs.Opening.{low, within}
use Rattle.redraw.proofs.opens.OpenMeetings.lowest.Goals as goal

pub violates-requires-clause-meeting : goal.violates-requires-clause-meeting
violates-requires-clause-meeting c =
    let self = c.args.self.now in
    let st = self.driven.now in
    low st (c.runs_stand.ensures.opens st) self.ordered c.as_slice-meeting-items.result.now (c.as_slice-meeting-items.ensures.value ∙ self.listed) c.loop-bit.bit c.loop-bit-test.true

pub returns-then-violates : goal.returns-then-violates
returns-then-violates c =
    let self = c.args.self.now in
    let st = self.driven.now in
    let listed = c.as_slice-meeting-items.ensures.value ∙ self.listed in
    let e = numbers_of c.args.timetable.now in
    let k = c.loop-bit.bit in
    sym (first_is st c.args.decided e k (within st (c.runs_stand.ensures.opens st) self.ordered c.as_slice-meeting-items.result.now listed k c.loop-bit-test.true) c.loop-bit.invariant
    (ap (λ (l : List ℕ). violates st c.args.decided e (k, slice_index l k)) (sym listed) ∙ sym c.violates.ensures ∙ c.if-violates.true))

pub loop-bit-preserved : goal.loop-bit-preserved
loop-bit-preserved c =
    let self = c.args.self.now in
    let st = self.driven.now in
    let listed = c.as_slice-meeting-items.ensures.value ∙ self.listed in
    let e = numbers_of c.args.timetable.now in
    let k = c.loop-bit.bit in
    below_more (λ k. violates st c.args.decided e (k, slice_index (open_meetings st) k) ≡ false) k c.loop-bit.invariant
    (ap (λ (l : List ℕ). violates st c.args.decided e (k, slice_index l k)) (sym listed) ∙ sym c.violates.ensures ∙ c.if-violates.false)

pub returns : goal.returns
returns c =
    let self = c.args.self.now in
    sym (none_is self.driven.now c.args.decided (numbers_of c.args.timetable.now) (λ i less. c.loop-bit.invariant i (omega (arith, less, c.loop-bit-test.false, ap (λ (l : List ℕ). length l) (c.as_slice-meeting-items.ensures.value ∙ self.listed)))))
