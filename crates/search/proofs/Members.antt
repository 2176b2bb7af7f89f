-- What stands in a row.
use Rattle.std.proofs.Common.{◌≡◌, ◌⊎◌, inl, inr, ℕ, zero, suc, List, [], ◌∷◌, ◌++◌}
use Rattle.std.specs.List.{insert}

abbrev pub In : {X : Type 0} → X → List X → Type 0
In x [] = ⊥
In x (y ∷ ys) = (x ≡ y) ⊎ In x ys

module _ {X : Type 0} (x : X) where
  pub in_front : (xs ys : List X) → In x xs → In x (xs ++ ys)
  in_front (z ∷ xs) ys (inl e) = inl e
  in_front (z ∷ xs) ys (inr i) = inr (in_front xs ys i)
  in_front [] ys i = absurd i

  pub in_behind : (xs ys : List X) → In x ys → In x (xs ++ ys)
  in_behind [] ys i = i
  in_behind (z ∷ xs) ys i = inr (in_behind xs ys i)

  pub in_either : (xs ys : List X) → In x (xs ++ ys) → In x xs ⊎ In x ys
  in_either [] ys i = inr i
  in_either (z ∷ xs) ys (inl e) = inl (inl e)
  in_either (z ∷ xs) ys (inr i) = elim (in_either xs ys i) [ inl i ↦ inl (inr i) | inr i ↦ inr i ]

  pub in_insert : (y : X) (row : List X) (k : ℕ) → In x (y ∷ row) → In x (insert row k y)
  in_insert y row zero h = h
  in_insert y [] (suc k) h = h
  in_insert y (z ∷ row) (suc k) (inl e) = inr (in_insert y row k (inl e))
  in_insert y (z ∷ row) (suc k) (inr (inl e)) = inl e
  in_insert y (z ∷ row) (suc k) (inr (inr h)) = inr (in_insert y row k (inr h))

  pub insert_in : (y : X) (row : List X) (k : ℕ) → In x (insert row k y) → In x (y ∷ row)
  insert_in y row zero h = h
  insert_in y [] (suc k) h = h
  insert_in y (z ∷ row) (suc k) (inl e) = inr (inl e)
  insert_in y (z ∷ row) (suc k) (inr h) = elim (insert_in y row k h) [ inl e ↦ inl e | inr i ↦ inr (inr i) ]

  -- one of some elements enters the row behind them
  pub entered : (y : X) (xs row : List X) (k : ℕ) → In x (y ∷ (xs ++ row)) → In x (xs ++ insert row k y)
  entered y xs row k (inl e) = in_behind xs (insert row k y) (in_insert y row k (inl e))
  entered y xs row k (inr i) = elim (in_either xs row i) [
    | inl i ↦ in_front xs (insert row k y) i
    | inr i ↦ in_behind xs (insert row k y) (in_insert y row k (inr i))
  ]

  pub before_entering : (y : X) (xs row : List X) (k : ℕ) → In x (xs ++ insert row k y) → In x (y ∷ (xs ++ row))
  before_entering y xs row k i = elim (in_either xs (insert row k y) i) [
    | inl i ↦ inr (in_front xs row i)
    | inr i ↦ elim (insert_in y row k i) [ inl e ↦ inl e | inr i ↦ inr (in_behind xs row i) ]
  ]
