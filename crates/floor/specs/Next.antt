-- The stop after a stop of a path.
use Rattle.std.specs.Prelude.{ℕ, suc, if◌then◌else◌, List, length, Some, None, Option, nat_lt}
use Rattle.files.specs.declared.plan.Stop.{Stop}
use Rattle.files.specs.Rules.{path_at}
use Rattle.meetings.specs.declared.stays.At.{At}
use Rattle.traffic.specs.Scene.{at}

-- on a path of so many stops; none after the last
abbrev pub next_after : At → ℕ → Option At
next_after a stops = if nat_lt (suc a.stop) stops then Some (at a.shuttle (suc a.stop)) else None

-- on the path of its shuttle
abbrev pub next_on : List (List Stop) → At → Option At
next_on ps a = next_after a (length (path_at ps a.shuttle))
