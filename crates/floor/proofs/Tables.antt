-- Tables of shuttle records, changed one record after another.
use Rattle.std.proofs.Common.{◌≡◌, ℕ, zero, suc, ◌+◌, ◌<◌, ◌≤◌, Bool, List, [], ◌∷◌, length, set, refl, ap, ◌∙◌, arith}
use Rattle.floor.specs.declared.table.Shuttle.{Shuttle}
use Rattle.floor.specs.Shuttles.{shuttle_at, step, stepped}

-- the first k stepped, from shuttle s on
abbrev pub stepped_to : (ℕ → Bool) → ℕ → ℕ → List Shuttle → List Shuttle
stepped_to moves s zero xs = xs
stepped_to moves s (suc k) [] = []
stepped_to moves s (suc k) (x ∷ xs) = step (moves s) x ∷ stepped_to moves (suc s) k xs

pub stepped-length : (moves : ℕ → Bool) (s k : ℕ) (xs : List Shuttle) → length (stepped_to moves s k xs) ≡ length xs
stepped-length moves s zero xs = refl
stepped-length moves s (suc k) [] = refl
stepped-length moves s (suc k) (x ∷ xs) = ap suc (stepped-length moves (suc s) k xs)

pub stepped_here : (moves : ℕ → Bool) (s k : ℕ) (xs : List Shuttle) → shuttle_at (stepped_to moves s k xs) k ≡ shuttle_at xs k
stepped_here moves s zero xs = refl
stepped_here moves s (suc k) [] = refl
stepped_here moves s (suc k) (x ∷ xs) = stepped_here moves (suc s) k xs

pub stepped_more :
    (moves : ℕ → Bool) (s k : ℕ) (xs : List Shuttle) → k < length xs
    → set (stepped_to moves s k xs) k (step (moves (s + k)) (shuttle_at xs k)) ≡ stepped_to moves s (suc k) xs
stepped_more moves s k [] h = absurd (omega arith)
stepped_more moves s zero (x ∷ xs) h = ap (λ (r : ℕ). step (moves r) x ∷ xs) (omega arith)
stepped_more moves s (suc k) (x ∷ xs) h =
    ap (λ (ys : List Shuttle). step (moves s) x ∷ ys)
    (ap (λ (r : ℕ). set (stepped_to moves (suc s) k xs) k (step (moves r) (shuttle_at xs k))) (omega arith) ∙ stepped_more moves (suc s) k xs (omega arith))

pub stepped_all : (moves : ℕ → Bool) (s k : ℕ) (xs : List Shuttle) → length xs ≤ k → stepped_to moves s k xs ≡ stepped moves s xs
stepped_all moves s zero [] h = refl
stepped_all moves s zero (x ∷ xs) h = absurd (omega arith)
stepped_all moves s (suc k) [] h = refl
stepped_all moves s (suc k) (x ∷ xs) h = ap (λ (ys : List Shuttle). step (moves s) x ∷ ys) (stepped_all moves (suc s) k xs (omega arith))

-- records of which the first k are stepped: their count, the next one, and one step more
module _ (moves : ℕ → Bool) (k : ℕ) (ys xs : List Shuttle) where
  pub same_length : ys ≡ stepped_to moves 0 k xs → length ys ≡ length xs
  same_length inv = ap (λ (l : List Shuttle). length l) inv ∙ stepped-length moves 0 k xs

  pub same_here : ys ≡ stepped_to moves 0 k xs → shuttle_at ys k ≡ shuttle_at xs k
  same_here inv = ap (λ (l : List Shuttle). shuttle_at l k) inv ∙ stepped_here moves 0 k xs

  pub stepped_next : (one : Shuttle) → k < length xs → ys ≡ stepped_to moves 0 k xs → one ≡ step (moves k) (shuttle_at xs k) → set ys k one ≡ stepped_to moves 0 (k + 1) xs
  stepped_next one lt inv is =
      (λ i. set (inv i) k (is i))
      ∙ ap (λ (r : ℕ). set (stepped_to moves 0 k xs) k (step (moves r) (shuttle_at xs k))) {x = k} {y = 0 + k} (omega arith)
      ∙ stepped_more moves 0 k xs lt
      ∙ ap (λ (r : ℕ). stepped_to moves 0 r xs) {x = suc k} {y = k + 1} (omega arith)
