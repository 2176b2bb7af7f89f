use Rattle.std.proofs.Common.{ℕ, ◌<◌, length}
use Rattle.files.specs.Rules.{Keeps}
use Rattle.files.proofs.Paths.{Before}
use Rattle.files.proofs.rules.check_path.Given as goal

abbrev pub invariant-loop-stop : goal.invariant-loop-stop
invariant-loop-stop l = ((i : ℕ) → i < l.stop → i < length l.stops → Keeps l.stops i) × Before l.stops l.stop l.before
