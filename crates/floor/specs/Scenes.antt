-- The scene of shuttle records on the paths of a plan.
use Rattle.std.specs.Prelude.{◌≡◌, ℕ, suc, ◌<◌, ◌≤◌, Bool, List, length, Option}
use Rattle.files.specs.declared.plan.Stop.{Stop}
use Rattle.files.specs.Rules.{path_at}
use Rattle.meetings.specs.declared.meet.First.{First}
use Rattle.traffic.specs.Plans.{scene_of}
use Rattle.traffic.specs.Scene.{Scene, moves}
use Rattle.floor.specs.declared.floor.calls.TheConstants.{LONGEST_HOLD}
use Rattle.floor.specs.declared.table.Shuttle.{Shuttle}
use Rattle.floor.specs.Shuttles.{shuttle_at, stop_in, hold_in, stepped}
use Rattle.floor.specs.Words.{bit, word_of}

abbrev pub scene : List (List Stop) → List (Option First) → List Shuttle → Scene
scene ps orders xs = scene_of ps orders (stop_in xs) (hold_in xs)

-- who moves at a tick, by the standing word
abbrev pub movers : List (List Stop) → List (Option First) → ℕ → List Shuttle → ℕ → Bool
movers ps orders standing xs = moves (scene ps orders xs) (bit standing)

-- the records after a tick, and the word of those that moved
abbrev pub after_tick : List (List Stop) → List (Option First) → ℕ → List Shuttle → List Shuttle
after_tick ps orders standing xs = stepped (movers ps orders standing xs) 0 xs

abbrev pub word_of_moved : List (List Stop) → List (Option First) → ℕ → List Shuttle → ℕ
word_of_moved ps orders standing xs = word_of (movers ps orders standing xs) (length ps)

-- a shuttle on its path: its hold is at most the longest one, and 0 at the last stop
pub record Placed (path : List Stop) (x : Shuttle) : Type 0 where
  pub on : x.stop < length path
  pub short : x.hold ≤ LONGEST_HOLD
  pub home : suc x.stop ≡ length path → x.hold ≡ 0

-- a record for each path, each on its path
pub record AllPlaced (ps : List (List Stop)) (xs : List Shuttle) : Type 0 where
  pub count : length xs ≡ length ps
  pub each : (s : ℕ) → s < length ps → Placed (path_at ps s) (shuttle_at xs s)
