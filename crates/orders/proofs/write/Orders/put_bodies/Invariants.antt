use Rattle.std.proofs.Common.{◌≡◌, ◌+◌, ◌*◌, length}
use Rattle.orders.specs.File.{body_bytes, over}
use Rattle.orders.specs.Plans.{shuttles_of, waits_of}
use Rattle.meetings.specs.Joined.{joined}
use Rattle.orders.proofs.write.Orders.put_bodies.Given as goal

abbrev pub invariant-loop-shuttle : goal.invariant-loop-shuttle
invariant-loop-shuttle l =
    (l.out ≡ over l.initial.out (2 + 4 * shuttles_of l.self) (joined (body_bytes (waits_of l.self)) l.shuttle))
    × (l.at ≡ 2 + 4 * shuttles_of l.self + length (joined (body_bytes (waits_of l.self)) l.shuttle))
