use Rattle.std.proofs.Common.{length, None}
use Rattle.redraw.specs.Orders.{order_by}
use Rattle.redraw.proofs.Filling.{Filled}
use Rattle.redraw.proofs.opens.OpenMeetings.decide.Given as goal

abbrev pub invariant-loop-bit : goal.invariant-loop-bit
invariant-loop-bit l = let st = l.self.driven.now in Filled st (length st.firsts) (order_by st l.decided l.turned) None l.bit l.orders
