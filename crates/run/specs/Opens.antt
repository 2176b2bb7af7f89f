-- The open meetings of a state, by a test.
use Rattle.std.specs.Prelude.{◌≡◌, ℕ, ◌<◌, Bool, IsTrue, ◌↔◌, List, length, filter, Some, None, Option, slice_index}
use Rattle.std.specs.List.{range_with_len}
use Rattle.floor.specs.Open.{OpenAt, is_open_at}
use Rattle.run.specs.State.{State, paths_on, tables_on, meetings_on}

-- a meeting that is open, by its number: neither shuttle has entered its stop there, neither stop is the last of its path, and the place is no table
abbrev pub OpenOn : ℕ → State → Type 0
OpenOn j st = OpenAt (paths_on st) (tables_on st) st.shuttles (meetings_on st) j

-- without a plan none is
abbrev pub OpenIn : ℕ → Option State → Type 0
OpenIn j None = ⊥
OpenIn j (Some st) = OpenOn j st

-- the test of it
abbrev pub open_at : State → ℕ → Bool
open_at st j = is_open_at (paths_on st) (tables_on st) st.shuttles (meetings_on st) j

-- the open meetings of the first j, and all of them
abbrev pub opens_below : State → ℕ → List ℕ
opens_below st j = filter (open_at st) (range_with_len 0 j)

abbrev pub open_meetings : State → List ℕ
open_meetings st = opens_below st (length (meetings_on st))

-- how many open meetings come before a meeting
abbrev pub rank : State → ℕ → ℕ
rank st j = length (opens_below st j)

-- The test finds just the open meetings. They are listed in number order, each at its rank.
pub record OpensLaw (st : State) : Type 0 where
  pub test : (j : ℕ) → IsTrue (open_at st j) ↔ OpenOn j st
  pub listed : (j : ℕ) → OpenOn j st → (rank st j < length (open_meetings st)) × (slice_index (open_meetings st) (rank st j) ≡ j)
  pub are_open : (k : ℕ) → k < length (open_meetings st) → OpenOn (slice_index (open_meetings st) k) st × (rank st (slice_index (open_meetings st) k) ≡ k)
  pub rising : (k l : ℕ) → k < l → l < length (open_meetings st) → slice_index (open_meetings st) k < slice_index (open_meetings st) l
