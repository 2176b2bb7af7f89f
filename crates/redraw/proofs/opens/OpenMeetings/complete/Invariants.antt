use Rattle.std.proofs.Common.{length}
use Rattle.meetings.specs.declared.meet.First.TheVariants.{Lower}
use Rattle.redraw.specs.Orders.{first_by}
use Rattle.redraw.proofs.Filling.{Filled}
use Rattle.redraw.proofs.opens.OpenMeetings.complete.Given as goal

abbrev pub invariant-loop-bit : goal.invariant-loop-bit
invariant-loop-bit l = let st = l.self.driven.now in Filled st (length st.firsts) (first_by st l.turned) Lower l.bit l.orders
