-- A put that goes below the nodes of a layer.
use Rattle.std.proofs.Common.{◌≡◌, ℕ, ◌+◌, ◌-◌, List, ◌++◌, length, reverse, Result, Ok, Err, refl, sym, ap, ◌∙◌, inr, subst, length-append, arith}
use Rattle.std.proofs.lemmas.List.{length-reverse}
use Rattle.std.proofs.lemmas.List.Edits.{insert-append_right}
use Rattle.std.specs.List.{insert}
use Rattle.heap.specs.Bounded.{capacity}
use Rattle.lists.specs.declared.node.Node.{Node}
use Rattle.lists.specs.Lists.{Layered, DiveMoves, newest_first}
use Rattle.lists.specs.Moves.{Move, Puts}

module _ {L U F : Type 0} (nodes : L → List Node) (room : L → ℕ) (moves : L → Move Node → L → Type 0) where
  -- a put into a layer of a list
  abbrev pub LayerPuts : Node → Result U F → Layered L → Layered L → Type 0
  LayerPuts x r old new = Puts (λ (d : Layered L). d.kept.row ++ nodes d.below) (DiveMoves moves) (λ (d : Layered L). capacity d.kept + room d.below) x r old new

  module _ (xs : List Node) (eight : length xs ≡ 8) where
    layered : (x : Node) (r : Result U F) (old new : L)
        → Puts nodes moves room x r old new
        → LayerPuts x r (record { kept = newest_first 8 xs; below = old }) (record { kept = newest_first 8 xs; below = new })
    layered x (Ok u) old new (fits, (k, (allowed, (within, is)))) =
        let long : length (reverse xs) ≡ 8 = length-reverse xs ∙ eight in
        let both = length-append (reverse xs) (nodes old) in
        let k_is : 8 + k - 8 ≡ k = omega arith in
        let behind = insert-append_right (reverse xs) (nodes old) 8 (8 + k) x long (omega arith) ∙ ap (λ n. reverse xs ++ insert (nodes old) n x) k_is in (
          omega (arith, fits, eight, both, long),
          (8 + k, (inr (long, refl, (k, refl, allowed)), (omega (arith, within, both, long), ap (λ ys. reverse xs ++ ys) is ∙ sym behind))),
        )
    layered x (Err f) old new (full, (allowed, is)) = (
      omega (arith, full, eight, length-reverse xs, length-append (reverse xs) (nodes old)),
      ((length-reverse xs ∙ eight, refl, allowed), ap (λ ys. reverse xs ++ ys) is),
    )

    pub put_below : (x : Node) (r : Result U F) (old new : L) (d : Layered L) → record { kept = newest_first 8 xs; below = old } ≡ d
        → Puts nodes moves room x r old new
        → LayerPuts x r d (record { kept = newest_first 8 xs; below = new })
    put_below x r old new d is p =
        let P : Layered L → Type 0 = λ d. LayerPuts x r d (record { kept = newest_first 8 xs; below = new }) in
        subst P is (layered x r old new p)
