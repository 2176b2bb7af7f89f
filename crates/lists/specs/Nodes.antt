-- The order of nodes.
use Rattle.std.specs.Prelude.{◌≡◌, Bool, cond, ◌==◌, nat_lt, nat_le}
use Rattle.std.specs.declared.cmp.Ordering.{Ordering}
use Rattle.heap.specs.Rows.{no_later}
use Rattle.lists.specs.declared.node.Node.{Node}

-- by bound, then by decided, then by turned
abbrev pub node_le : Node → Node → Bool
node_le a b = cond (a.bound == b.bound) (cond (a.decided == b.decided) (nat_le a.turned b.turned) (nat_lt a.decided b.decided)) (nat_lt a.bound b.bound)

-- A comparison of nodes puts no other order on them.
abbrev pub NodesOrder : (Node → Node → Ordering) → Type 0
NodesOrder cmp = (a b : Node) → no_later cmp a b ≡ node_le a b
