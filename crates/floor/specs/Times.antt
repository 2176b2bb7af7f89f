-- Timetables: the entry ticks of a plan's stops, and the arrivals of its shuttles.
use Rattle.std.specs.Prelude.{◌≡◌, ℕ, ◌<◌, ◌≤◌, List, [], map, Some, slice_index, slice_index_or}
use Rattle.std.specs.List.{range_with_len}
use Rattle.meetings.specs.declared.stays.At.{At}
use Rattle.traffic.specs.Scene.{Scene, Numbers, at}
use Rattle.traffic.specs.Ticks.{entry_ticks}

-- a row of ticks for each shuttle, and the arrivals in the order of shuttles
pub record Times : Type 0 where
  pub rows : List (List ℕ)
  pub arrivals : List ℕ

-- the entry tick that a timetable has for a stop; 0 where it has no such stop
abbrev pub tick_in : List (List ℕ) → At → ℕ
tick_in rows a = slice_index (slice_index_or rows a.shuttle []) a.stop

abbrev pub tick_of : Times → At → ℕ
tick_of t a = tick_in t.rows a

-- the entry ticks of the last stops of the first n shuttles
abbrev pub arrivals_by : Scene → ℕ → Numbers → List ℕ
arrivals_by c n e = map (λ s. e s (c.last s)) (range_with_len 0 n)

-- The timetable of the first n shuttles has their entry ticks, and exactly their arrivals.
pub record IsTimetable (c : Scene) (n : ℕ) (t : Times) : Type 0 where
  pub ticks : Numbers
  pub worked : entry_ticks c n ≡ Some ticks
  pub each : (s i : ℕ) → s < n → i ≤ c.last s → tick_of t (at s i) ≡ ticks s i
  pub arrivals : t.arrivals ≡ arrivals_by c n ticks
