use Rattle.std.proofs.Common.{◌≡◌, ◌+◌, ◌*◌, ◌≤◌}
use Rattle.orders.specs.File.{body_at, entry_bytes, over}
use Rattle.orders.specs.Plans.{shuttles_of, waits_of}
use Rattle.meetings.specs.Joined.{joined}
use Rattle.orders.proofs.write.Orders.put_contents.Given as goal

abbrev pub invariant-loop-shuttle : goal.invariant-loop-shuttle
invariant-loop-shuttle l =
    (l.out ≡ over l.initial.out 2 (joined (entry_bytes (shuttles_of l.self) (waits_of l.self)) l.shuttle))
    × (l.at ≡ 2 + 4 * l.shuttle)
    × (l.begin ≡ body_at (shuttles_of l.self) (waits_of l.self) l.shuttle)
    × (l.begin ≤ 2 + 4 * shuttles_of l.self + 1536 * l.shuttle)
