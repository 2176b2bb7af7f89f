-- Passing orders as lists.
use Rattle.std.specs.Prelude.{List, Option}
use Rattle.meetings.specs.declared.meet.First.{First}
use Rattle.traffic.specs.Plans.{named}
use Rattle.floor.specs.declared.passing.PassingOrders.{PassingOrders}
use Rattle.floor.specs.declared.passing.PassingOrders.TheVariants.{Named, Partial}

-- an order for each meeting; none where it is left out
abbrev pub orders_of : PassingOrders → List (Option First)
orders_of (Named firsts) = named firsts.now
orders_of (Partial orders) = orders.now
