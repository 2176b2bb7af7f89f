use Rattle.std.proofs.Common.{◌≡◌, take, vec_items}
use Rattle.orders.specs.Waits.{own_waits}
use Rattle.orders.proofs.waits.plan_waits.Given as goal

abbrev pub invariant-loop-meeting : goal.invariant-loop-meeting
invariant-loop-meeting l = vec_items l.all ≡ own_waits (take l.meeting-index l.meeting-items)
