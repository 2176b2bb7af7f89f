use Rattle.traffic.proofs.Planned.{fresh_runs_have_no_ring, full_orders_settle, plans_are_within, tables_are_served_in_order}
use Rattle.traffic.proofs.plans_stand.Goals as goal

pub returns : goal.returns
returns c =
    let listed = c.meetings_stand.ensures.listed in
    let clear = c.meetings_stand.ensures.clear in
    let first = c.meetings_stand.ensures.first in
    record { fresh = fresh_runs_have_no_ring listed clear first; settled = full_orders_settle listed clear first; within = plans_are_within listed clear first; tables = tables_are_served_in_order }
