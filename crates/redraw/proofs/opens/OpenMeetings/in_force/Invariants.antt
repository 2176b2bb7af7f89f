use Rattle.std.proofs.Common.{◌≡◌, take}
use Rattle.traffic.specs.Plans.{named}
use Rattle.redraw.proofs.opens.OpenMeetings.in_force.Given as goal

abbrev pub invariant-loop-first : goal.invariant-loop-first
invariant-loop-first l = l.orders.items ≡ named (take l.first-index l.self.driven.now.firsts)
