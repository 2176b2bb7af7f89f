use Rattle.heap.proofs.Orders.{order_of}
use Rattle.heap.proofs.Rows.{itself, sort_ascends, sort_keeps, row_unique, insert_ascends, insert_adds, insert-at-place, place_divides}
use Rattle.heap.proofs.rows_stand.Goals as goal

pub returns : goal.returns
returns g c = record {
  ordered = order_of;
  reflexive = itself;
  ascends = sort_ascends;
  same = sort_keeps;
  unique = row_unique;
  inserted = insert_ascends;
  one = insert_adds;
  place = insert-at-place;
  divides = place_divides;
}
