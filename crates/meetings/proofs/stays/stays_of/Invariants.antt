use Rattle.std.proofs.Common.{◌≡◌, vec_items}
use Rattle.files.specs.Rules.{path_at}
use Rattle.files.specs.Views.{paths_of}
use Rattle.meetings.specs.Joined.{joined}
use Rattle.meetings.specs.Stays.{path_stays}
use Rattle.meetings.proofs.stays.stays_of.Given as goal

abbrev pub invariant-loop-shuttle : goal.invariant-loop-shuttle
invariant-loop-shuttle l = vec_items l.all ≡ joined (λ s. path_stays s (path_at (paths_of l.paths) s)) l.shuttle
