-- A heap and a stack leave one row after each put.
use Rattle.std.specs.Prelude.{◌∷◌}
use Rattle.std.specs.List.Sorted.{IsPermutation}
use Rattle.std.proofs.Common.{ap, sym, subst, ◌∙◌, arith, rules}
use Rattle.std.proofs.lemmas.Bool.Decides.{nat_tests}
use Rattle.std.proofs.lemmas.List.Sorted.{IsPermutation-insert, IsPermutation-sym, IsPermutation-trans}
use Rattle.heap.specs.Bounded.{Holding}
use Rattle.heap.specs.Laws.{RowsAreUnique}
use Rattle.heap.specs.Rows.{Order}
use Rattle.lists.specs.Lists.{HeapMoves, StackMoves}
use Rattle.lists.specs.Nodes.{node_le}
use Rattle.lists.specs.declared.node.Node.{Node}
use Rattle.worked.proofs.Deciding.{Decides}

nodes_order : Order node_le
nodes_order = record {
  total = λ a b t. search (rules, nat_tests, arith);
  transitive = λ a b c t u. search (rules, nat_tests, arith);
  antisymmetric = λ a b t u. search (rules, nat_tests, arith);
}

pub heap_decides : RowsAreUnique Node → Decides HeapMoves
heap_decides unique a b c d node p q same f h =
    let one = IsPermutation-insert a.row p node in
    let two = IsPermutation-insert c.row q node in
    let from : IsPermutation (node ∷ a.row) b.row =
    subst (λ r. IsPermutation (node ∷ a.row) r) (sym f.1.1) one in
    let to : IsPermutation (node ∷ a.row) d.row =
    subst (λ r. IsPermutation (node ∷ r) d.row) (sym same)
    (subst (λ r. IsPermutation (node ∷ c.row) r) (sym h.1.1) two) in
    unique node_le nodes_order b.row d.row f.0.1 h.0.1
    (IsPermutation-trans b.row (node ∷ a.row) d.row
    (IsPermutation-sym (node ∷ a.row) b.row from) to)

pub stack_decides : Decides StackMoves
stack_decides a b c d node p q same f h =
    ap (λ (l : Holding Node). l.row) f.0.1 ∙ ap (λ r. node ∷ r) same
    ∙ sym (ap (λ (l : Holding Node). l.row) h.0.1)
