-- The order file of a plan.
use Rattle.std.specs.Prelude.{ℕ, ◌+◌, ◌*◌, min, List, length}
use Rattle.meetings.specs.declared.meet.First.{First}
use Rattle.meetings.specs.Joined.{joined}
use Rattle.plans.specs.declared.plan.Plan.{Plan}
use Rattle.orders.specs.declared.waits.Wait.{Wait}
use Rattle.orders.specs.declared.write.Orders.{Orders}
use Rattle.orders.specs.File.{body_bytes, entry_bytes, order_bytes}
use Rattle.orders.specs.Waits.{waits}

-- by who goes first at each meeting
abbrev pub plan_orders : Plan → List First → List ℕ
plan_orders p firsts = order_bytes (length p.paths) (waits p.meetings firsts)

-- and its length: the number of shuttles, an entry for each, and a wait for each meeting that has a first
abbrev pub orders_length : Plan → List First → ℕ
orders_length p firsts = 2 + 4 * length p.paths + 6 * min (length p.meetings) (length firsts)

-- the shuttles and the waits of orders, and the parts of their file, the whole of it, and its length
abbrev pub shuttles_of : Orders → ℕ
shuttles_of o = length o.plan.now.paths

abbrev pub waits_of : Orders → List Wait
waits_of o = waits o.plan.now.meetings o.firsts.now

abbrev pub contents_bytes : Orders → List ℕ
contents_bytes o = joined (entry_bytes (shuttles_of o) (waits_of o)) (shuttles_of o)

abbrev pub bodies_bytes : Orders → List ℕ
bodies_bytes o = joined (body_bytes (waits_of o)) (shuttles_of o)

abbrev pub file_bytes : Orders → List ℕ
file_bytes o = plan_orders o.plan.now o.firsts.now

abbrev pub file_length : Orders → ℕ
file_length o = orders_length o.plan.now o.firsts.now
