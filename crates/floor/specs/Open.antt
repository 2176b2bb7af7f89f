-- Meetings that are open: neither shuttle has entered its stop there.
use Rattle.std.specs.Prelude.{ℕ, suc, ◌<◌, Bool, false, ◌&&◌, not, if◌then◌else◌, List, length, ◌==◌, nat_lt}
use Rattle.std.specs.List.{ContainsAt, list_any}
use Rattle.files.specs.declared.plan.Stop.{Stop}
use Rattle.files.specs.Rules.{path_at, stop_at}
use Rattle.meetings.specs.declared.meet.Meeting.{Meeting}
use Rattle.meetings.specs.declared.stays.At.{At}
use Rattle.traffic.specs.Index.{meeting_at}
use Rattle.floor.specs.declared.table.Shuttle.{Shuttle}
use Rattle.floor.specs.Shuttles.{stop_in}

-- a stop that its shuttle has not entered, and that is not the last of its path
pub record Ahead (ps : List (List Stop)) (xs : List Shuttle) (a : At) : Type 0 where
  pub unentered : stop_in xs a.shuttle < a.stop
  pub onward : suc a.stop < length (path_at ps a.shuttle)

-- A meeting is open when both stops are ahead, and the place is no table.
pub record Open (ps : List (List Stop)) (tables : List ℕ) (xs : List Shuttle) (m : Meeting) : Type 0 where
  pub lower : Ahead ps xs m.lower
  pub other : Ahead ps xs m.other
  pub plain : ContainsAt tables (stop_at (path_at ps m.lower.shuttle) m.lower.stop).place → ⊥

-- by its number
abbrev pub OpenAt : List (List Stop) → List ℕ → List Shuttle → List Meeting → ℕ → Type 0
OpenAt ps tables xs ms j = (j < length ms) × Open ps tables xs (meeting_at ms j)

-- the tests of these
abbrev pub is_ahead : List (List Stop) → List Shuttle → At → Bool
is_ahead ps xs a = nat_lt (stop_in xs a.shuttle) a.stop && nat_lt (suc a.stop) (length (path_at ps a.shuttle))

abbrev pub is_table : List (List Stop) → List ℕ → At → Bool
is_table ps tables a = list_any (λ table. table == (stop_at (path_at ps a.shuttle) a.stop).place) tables

abbrev pub is_meeting_open : List (List Stop) → List ℕ → List Shuttle → Meeting → Bool
is_meeting_open ps tables xs m = is_ahead ps xs m.lower && is_ahead ps xs m.other && not (is_table ps tables m.lower)

unfoldable pub is_open_at : List (List Stop) → List ℕ → List Shuttle → List Meeting → ℕ → Bool
is_open_at ps tables xs ms j = if nat_lt j (length ms) then is_meeting_open ps tables xs (meeting_at ms j) else false
