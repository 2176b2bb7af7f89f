use Rattle.std.proofs.Common.{ℕ, ◌<◌}
use Rattle.files.specs.Rules.{path_at, PathKeeps}
use Rattle.files.specs.Views.{paths_of}
use Rattle.files.proofs.rules.check_paths.Given as goal

abbrev pub invariant-loop-shuttle : goal.invariant-loop-shuttle
invariant-loop-shuttle l = (s : ℕ) → s < l.shuttle → PathKeeps (path_at (paths_of l.paths) s)
