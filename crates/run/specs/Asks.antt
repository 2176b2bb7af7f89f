-- What a run answers when it is asked.
use Rattle.std.specs.Prelude.{ℕ, length, Some, None, Option, if◌then◌else◌, nat_lt}
use Rattle.meetings.specs.declared.meet.First.{First}
use Rattle.meetings.specs.declared.stays.At.{At}
use Rattle.traffic.specs.Scene.{at}
use Rattle.floor.specs.declared.table.Shuttle.{Shuttle}
use Rattle.floor.specs.Next.{next_on}
use Rattle.floor.specs.Shuttles.{shuttle_at, stop_in}
use Rattle.run.specs.Lawful.{first_at}
use Rattle.run.specs.State.{State, paths_on, count_on}

-- the record of a shuttle of the plan
abbrev pub shuttle_of : ℕ → State → Option Shuttle
shuttle_of s st = if nat_lt s (count_on st) then Some (shuttle_at st.shuttles s) else None

-- its next stop
abbrev pub next_of : ℕ → State → Option At
next_of s st = next_on (paths_on st) (at s (stop_in st.shuttles s))

-- who goes first at a meeting
abbrev pub first_of : ℕ → State → Option First
first_of j st = if nat_lt j (length st.firsts) then Some (first_at st.firsts j) else None
