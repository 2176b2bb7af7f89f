-- Arrivals, and the ticks of a run that bring them about.
use Rattle.std.specs.Prelude.{◌≡◌, ℕ, suc, ◌<◌, ◌≤◌, List, [], length, slice_index}
use Rattle.std.specs.Option.{option_map_or}
use Rattle.files.specs.Rules.{path_at}
use Rattle.traffic.specs.Ticks.{entry_ticks}
use Rattle.floor.specs.Shuttles.{stop_in}
use Rattle.floor.specs.Times.{arrivals_by}
use Rattle.run.specs.Calls.{after_ticks}
use Rattle.run.specs.State.{State, paths_on, count_on, scene_now}

-- The arrivals of the plan's shuttles under the orders in force, in number order. These close no ring; with one there would be none.
abbrev pub arrivals_now : State → List ℕ
arrivals_now st = option_map_or (arrivals_by (scene_now st) (count_on st)) (entry_ticks (scene_now st) (count_on st)) []

-- a shuttle at its last stop
abbrev pub IsHome : State → ℕ → Type 0
IsHome st s = suc (stop_in st.shuttles s) ≡ length (path_at (paths_on st) s)

-- Arrivals are the ticks at which the run's own undisturbed ticks bring the shuttles to their last stops: after n of them just those shuttles are there whose arrival is at most n.
abbrev pub Execution : State → List ℕ → Type 0
Execution st l = (n s : ℕ) → s < count_on st → (slice_index l s ≤ n → IsHome (after_ticks n st) s) × (IsHome (after_ticks n st) s → slice_index l s ≤ n)
