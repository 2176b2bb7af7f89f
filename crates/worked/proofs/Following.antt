-- Moves that a heap or a stack may make, by a test.
use Rattle.std.specs.Prelude.{◌≡◌, ℕ, ◌≤◌, Bool, true, ◌&&◌, nat_le, ◌==◌, List, [], ◌∷◌, drop, length}
use Rattle.std.specs.List.{AllByRecursion, insert}
use Rattle.std.proofs.Common.{refl, arith, rules}
use Rattle.std.proofs.lemmas.Bool.Decides.{nat_tests}
use Rattle.heap.specs.Bounded.{Holding}
use Rattle.heap.specs.Laws.{RowsAreUnique}
use Rattle.heap.specs.Rows.{Ascends}
use Rattle.lists.specs.Lists.{HeapMoves, StackMoves, with_row}
use Rattle.lists.specs.Moves.{Move, Clear, Put, Refuse, Take, Follows, Goes}
use Rattle.lists.specs.Nodes.{node_le}
use Rattle.lists.specs.declared.node.Node.{Node}
use Rattle.worked.proofs.Deciding.{Decides, rows}
use Rattle.worked.proofs.Rules.{heap_decides, stack_decides}
use Rattle.worked.specs.Drafts.{Rule}

-- whether a row ascends
abbrev no_later_than : Node → List Node → Bool
no_later_than x [] = true
no_later_than x (y ∷ ys) = node_le x y && no_later_than x ys

abbrev ascends : List Node → Bool
ascends [] = true
ascends (x ∷ xs) = no_later_than x xs && ascends xs

pub both : (a b : Bool) → (a && b) ≡ true → (a ≡ true) × (b ≡ true)
both a b t = search rules

none_earlier :
    (x : Node) (xs : List Node) → no_later_than x xs ≡ true
    → AllByRecursion (λ y. node_le x y ≡ true) xs
none_earlier x [] t = tt
none_earlier x (y ∷ ys) t =
    let p = both (node_le x y) (no_later_than x ys) t in (p.0, none_earlier x ys p.1)

does_ascend : (xs : List Node) → ascends xs ≡ true → Ascends node_le xs
does_ascend [] t = tt
does_ascend (x ∷ xs) t =
    let p = both (no_later_than x xs) (ascends xs) t in (none_earlier x xs p.0, does_ascend xs p.1)

-- what a move makes of a heap or a stack
abbrev pub moved : Holding Node → Move Node → Holding Node
moved old Clear = with_row old []
moved old (Put x place) = with_row old (insert old.row place x)
moved old (Refuse x) = old
moved old Take = with_row old (drop 1 old.row)

abbrev pub moved_all : Holding Node → List (Move Node) → Holding Node
moved_all old [] = old
moved_all old (move ∷ moves) = moved_all (moved old move) moves

within : (place n : ℕ) → nat_le place n ≡ true → place ≤ n
within place n t = grind (arith, nat_tests)

-- a rule that is decided by a test, and leaves one row after each put
pub record Tested (rule : Rule) : Type 0 where
  pub test : Holding Node → Move Node → Bool
  pub goes :
      (old : Holding Node) (move : Move Node) → test old move ≡ true
      → Goes rows rule old move (moved old move)
  pub decides : Decides rule

-- whether all moves pass a test, one after another
abbrev pub passes : (Holding Node → Move Node → Bool) → Holding Node → List (Move Node) → Bool
passes test old [] = true
passes test old (move ∷ moves) = test old move && passes test (moved old move) moves

pub followed :
    {rule : Rule} (tested : Tested rule)
    (old : Holding Node) (moves : List (Move Node)) → passes tested.test old moves ≡ true
    → Follows rows rule old moves (moved_all old moves)
followed tested old [] t = refl
followed tested old (move ∷ moves) t =
    let p = both (tested.test old move) (passes tested.test (moved old move) moves) t in
    (moved old move, tested.goes old move p.0, followed tested (moved old move) moves p.1)

abbrev pub heap_test : Holding Node → Move Node → Bool
heap_test old Clear = true
heap_test old (Put x place) = nat_le place (length old.row) && ascends (insert old.row place x)
heap_test old (Refuse x) = true
heap_test old Take = ascends old.row

pub heap_goes :
    (old : Holding Node) (move : Move Node) → heap_test old move ≡ true
    → Goes rows HeapMoves old move (moved old move)
heap_goes old Clear t = (refl, refl)
heap_goes old (Put x place) t =
    let p = both (nat_le place (length old.row)) (ascends (insert old.row place x)) t in
    ((refl, does_ascend (insert old.row place x) p.1), (within place (length old.row) p.0, refl))
heap_goes old (Refuse x) t = (refl, refl)
heap_goes old Take t = ((refl, does_ascend old.row t), refl)

abbrev pub stack_test : Holding Node → Move Node → Bool
stack_test old Clear = true
stack_test old (Put x place) = place == 0
stack_test old (Refuse x) = true
stack_test old Take = true

pub stack_goes :
    (old : Holding Node) (move : Move Node) → stack_test old move ≡ true
    → Goes rows StackMoves old move (moved old move)
stack_goes old Clear t = (refl, refl)
stack_goes old (Put x place) t =
    let none : place ≡ 0 = grind (arith, nat_tests) in
    let first : with_row old (insert old.row place x) ≡ with_row old (x ∷ old.row) = rw none refl in
    ((none, first), (omega (arith, none), refl))
stack_goes old (Refuse x) t = (refl, refl)
stack_goes old Take t = (refl, refl)

abbrev pub heap_tested : RowsAreUnique Node → Tested HeapMoves
heap_tested unique = record { test = heap_test; goes = heap_goes; decides = heap_decides unique }

abbrev pub stack_tested : Tested StackMoves
stack_tested = record { test = stack_test; goes = stack_goes; decides = stack_decides }
