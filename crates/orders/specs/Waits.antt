-- Waits: at a meeting the second shuttle's stop waits for the first shuttle's following stop.
use Rattle.std.specs.Prelude.{ℕ, zero, suc, ◌<◌, Bool, List, [], ◌∷◌, map, Some, None, filter, Option, ◌==◌, slice_index_or}
use Rattle.meetings.specs.declared.meet.First.{First}
use Rattle.meetings.specs.declared.meet.First.TheVariants.{Lower, Other}
use Rattle.meetings.specs.declared.meet.Meeting.{Meeting}
use Rattle.meetings.specs.declared.stays.At.{At}
use Rattle.orders.specs.declared.waits.Wait.{Wait}

-- the stop after a stop
abbrev pub following : At → At
following a = record { shuttle = a.shuttle; stop = suc a.stop }

-- the stop of the shuttle that goes first, and that of the second
abbrev pub stops_in_order : Meeting → First → At × At
stops_in_order m Lower = (m.lower, m.other)
stops_in_order m Other = (m.other, m.lower)

abbrev pub wait_under : Meeting → First → Wait
wait_under m Lower = record { second = m.other; awaited = following m.lower }
wait_under m Other = record { second = m.lower; awaited = following m.other }

-- the wait at a meeting by its number, if there is such a meeting
abbrev pub wait_by_number : List Meeting → ℕ → First → Option Wait
wait_by_number [] k f = None
wait_by_number (m ∷ ms) zero f = Some (wait_under m f)
wait_by_number (m ∷ ms) (suc k) f = wait_by_number ms k f

-- the waits at meetings, by who goes first at each
abbrev pub waits : List Meeting → List First → List Wait
waits [] fs = []
waits (m ∷ ms) [] = []
waits (m ∷ ms) (f ∷ fs) = wait_under m f ∷ waits ms fs

-- who goes first in the plan, and the waits that follow
abbrev pub firsts_of : List Meeting → List First
firsts_of ms = map (λ (m : Meeting). m.first) ms

abbrev pub own_wait : Meeting → Wait
own_wait m = wait_under m m.first

abbrev pub own_waits : List Meeting → List Wait
own_waits ms = map own_wait ms

abbrev pub nth_wait : List Wait → ℕ → Wait
nth_wait ws k = slice_index_or ws k (record { second = record { shuttle = 0; stop = 0 }; awaited = record { shuttle = 0; stop = 0 } })

-- the waits of a shuttle, in meeting order
abbrev pub is_second : ℕ → Wait → Bool
is_second s w = w.second.shuttle == s

abbrev pub body_of : ℕ → List Wait → List Wait
body_of s ws = filter (is_second s) ws

-- a stop's numbers and the following one's have 16 bits
abbrev pub FitsAt : At → Type 0
FitsAt a = (a.shuttle < 65536) × (suc a.stop < 65536)

abbrev pub FitsMeeting : Meeting → Type 0
FitsMeeting m = FitsAt m.lower × FitsAt m.other
