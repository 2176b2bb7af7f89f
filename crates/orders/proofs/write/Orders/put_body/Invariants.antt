use Rattle.std.proofs.Common.{◌≡◌, ◌+◌, length}
use Rattle.std.specs.List.{AllByRecursion}
use Rattle.orders.specs.File.{body_bytes, over}
use Rattle.orders.specs.Plans.{waits_of}
use Rattle.orders.specs.Waits.{waits, FitsMeeting}
use Rattle.orders.proofs.write.Orders.put_body.Given as goal

-- what is still to be written over the buffer makes the whole
abbrev pub invariant-loop-meeting : goal.invariant-loop-meeting
invariant-loop-meeting l =
    let rest = body_bytes (waits l.meeting-iterator.a.rest.now l.meeting-iterator.b.rest.now) l.shuttle in
    let whole = body_bytes (waits_of l.self) l.shuttle in
    (over l.out l.next rest ≡ over l.initial.out l.at whole)
    × (l.next + length rest ≡ l.at + length whole)
    × AllByRecursion FitsMeeting l.meeting-iterator.a.rest.now
