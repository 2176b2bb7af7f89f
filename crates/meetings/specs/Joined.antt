-- Lists made for each number and joined, as the stays of all shuttles and the bodies of a file are.
use Rattle.std.specs.Prelude.{◌≡◌, ℕ, ◌+◌, ◌<◌, ◌≤◌, List, ◌++◌, length, slice_index_or}
use Rattle.std.specs.List.{range_with_len, flat_map}

-- those of the numbers below n
abbrev pub joined : {X : Type 0} → (ℕ → List X) → ℕ → List X
joined f n = flat_map f (range_with_len 0 n)

-- One list more comes behind the others; each is all there, and its entries stand behind those of all lists before it.
pub record JoinedLaw (X : Type 0) : Type 0 where
  pub more : (f : ℕ → List X) (n : ℕ) → joined f (n + 1) ≡ joined f n ++ f n
  pub rises :
      (f : ℕ → List X) (s n : ℕ) → s < n
      → length (joined f s) + length (f s) ≤ length (joined f n)
  pub at :
      (f : ℕ → List X) (n s i : ℕ) (d : X) → s < n → i < length (f s)
      → slice_index_or (joined f n) (length (joined f s) + i) d ≡ slice_index_or (f s) i d
