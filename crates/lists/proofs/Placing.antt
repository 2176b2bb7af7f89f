-- A put into the heap and a take from it, as the waiting list sees them.
use Rattle.std.proofs.Common.{◌≡◌, ℕ, ◌+◌, Option, None, Some, Result, Ok, Err, List, [], length, drop, sym, ap, ◌∙◌, subst, arith}
use Rattle.std.proofs.lemmas.List.Edits.{length-insert}
use Rattle.std.specs.List.{insert}
use Rattle.heap.specs.Bounded.{Holding, PutIn, PutsIn, TakesOut, capacity}
use Rattle.heap.specs.Laws.{InsertsAtPlace}
use Rattle.heap.specs.Rows.{Ascends, place}
use Rattle.lists.specs.declared.node.Node.{Node}
use Rattle.lists.specs.Lists.{HeapMoves}
use Rattle.lists.specs.Moves.{Goes, Puts, Put, Take}
use Rattle.lists.specs.Nodes.{node_le}
use Rattle.lists.proofs.Stacked.{same}

module _ (at_place : InsertsAtPlace Node) (x : Node) (old new : Holding Node) (p : PutIn node_le x old new) where
  k : ℕ
  k = place node_le x old.row

  row : new.row ≡ insert old.row k x
  unfolding k
  row = p.row ∙ (at_place node_le x old.row).1

  longer : length new.row ≡ length old.row + 1
  unfolding k
  longer = ap (λ (l : List Node). length l) row ∙ length-insert old.row k x (at_place node_le x old.row).0

  size_kept : capacity new ≡ capacity old
  size_kept = omega (arith, longer, p.free)

  put_ascending : (place : ℕ) × Goes (λ (h : Holding Node). h.row) HeapMoves old (Put x place) new
  unfolding k
  put_ascending =
      let one_more : length (insert old.row k x) ≡ length old.row + 1 = length-insert old.row k x (at_place node_le x old.row).0 in
      (k, ((same new.row (insert old.row k x) new.free _ row (omega (arith, p.free, one_more)), p.ascends), ((at_place node_le x old.row).0, row)))

-- what comes of a put
module _ (at_place : InsertsAtPlace Node) {U F : Type 0} (x : Node) where
  pub placed : (r : Result U F) (old new : Holding Node) → PutsIn node_le x r old new → Puts (λ (h : Holding Node). h.row) HeapMoves capacity x r old new × (capacity new ≡ capacity old)
  placed (Ok u) old new p = ((omega (arith, p.free), put_ascending at_place x old new p), size_kept at_place x old new p)
  placed (Err f) old new (full, same) = ((omega (arith, full), (same, ap (λ (h : Holding Node). h.row) same)), ap capacity same)

-- what comes of a take
pub taken : (r : Option Node) (old new : Holding Node) → TakesOut node_le r old new → HeapMoves old Take new
taken None old new p =
    let empty : new.row ≡ [] = ap (λ (h : Holding Node). h.row) p.1 ∙ p.0 in
    let left : drop 1 old.row ≡ [] = ap (drop 1) p.0 in
    (same new.row (drop 1 old.row) new.free _ (empty ∙ sym left) (omega (arith, ap (λ (h : Holding Node). h.free) p.1, ap (λ (l : List Node). length l) p.0, ap (λ (l : List Node). length l) left)), subst (Ascends node_le) (sym p.0) tt)
taken (Some x) old new p =
    let left : drop 1 old.row ≡ new.row = ap (drop 1) p.row in
    (same new.row (drop 1 old.row) new.free _ (sym left) (omega (arith, p.free, ap (λ (l : List Node). length l) p.row, ap (λ (l : List Node). length l) left)), p.ascends)
