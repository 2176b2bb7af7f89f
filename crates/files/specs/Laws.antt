-- Laws of paths, for the crates above.
use Rattle.std.specs.Prelude.{◌≡◌, ℕ, suc, ◌<◌, List, length, slice_index_or}
use Rattle.files.specs.declared.plan.Path as plan
use Rattle.files.specs.declared.plan.Stop.{Stop}
use Rattle.files.specs.Rules.{stop_at, path_at, PathKeeps}
use Rattle.files.specs.Views.{path_of, paths_of}

-- The path of a shuttle is what stands at its number in a list of paths.
abbrev pub PathsStandInOrder : Type 0
PathsStandInOrder =
    (xs : List plan.Path) (s : ℕ) (p : plan.Path) → s < length xs → p ≡ slice_index_or xs s p
    → path_at (paths_of xs) s ≡ path_of p

-- On a path that keeps the rules the tick of each stop is below that of the next.
abbrev pub PathsRise : Type 0
PathsRise =
    (path : List Stop) (i : ℕ) → PathKeeps path → suc i < length path
    → (stop_at path i).tick < (stop_at path (suc i)).tick
