-- What is taken from a stack.
use Rattle.std.proofs.Common.{◌≡◌, ℕ, ◌+◌, ◌-◌, ◌<◌, ◌≤◌, List, [], ◌∷◌, ◌++◌, length, take, drop, get_or, reverse, length-take-le, sym, refl, ap, ◌∙◌, arith}
use Rattle.std.proofs.lemmas.List.{length-reverse, reverse-append, take_more}
use Rattle.heap.specs.Bounded.{Holding, capacity}
use Rattle.lists.specs.Lists.{newest_first, with_row}

-- with the same row and the same free places
pub same : {X : Type 0} (row row' : List X) (free free' : ℕ) → row ≡ row' → free ≡ free' → (let h : Holding X = record { row = row; free = free } in h) ≡ record { row = row'; free = free' }
same row row' free free' p q = λ i. record { row = p i; free = q i }

module _ {X : Type 0} (room : ℕ) (xs : List X) (within : length xs ≤ room) where
  capacity_is : capacity (newest_first room xs) ≡ room
  capacity_is = omega (arith, within, length-reverse xs)

  -- another row with its capacity
  stacked_row : (ys : List X) → newest_first room ys ≡ with_row (newest_first room xs) (reverse ys)
  stacked_row ys = same (reverse ys) (reverse ys) (room - length ys) _ refl (omega (arith, capacity_is, length-reverse ys))

  pub popped : (ys : List X) (x : X) → xs ≡ ys ++ x ∷ [] → newest_first room ys ≡ with_row (newest_first room xs) (drop 1 (reverse xs))
  popped ys x e = stacked_row ys ∙ ap (with_row (newest_first room xs)) (sym (ap (λ zs. drop 1 (reverse zs)) e ∙ ap (drop 1) (reverse-append ys (x ∷ []))))

-- the last of the first n places is taken off
pub taken_off : {X : Type 0} (xs : List X) (n : ℕ) (d : X) → 0 < n → n ≤ length xs → newest_first (length xs) (take (n - 1) xs) ≡ with_row (newest_first (length xs) (take n xs)) (drop 1 (reverse (take n xs)))
taken_off xs n d some within =
    let one_more : n ≡ n - 1 + 1 = omega (arith, some) in
    popped (length xs) (take n xs) (omega (arith, length-take-le n xs within, within)) (take (n - 1) xs) (get_or xs (n - 1) d)
    (ap (λ k. take k xs) one_more ∙ take_more xs (n - 1) d (omega (arith, some, within)))
