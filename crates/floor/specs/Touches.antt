-- Touches: what a stop may wait for at its meetings.
use Rattle.std.specs.Prelude.{ℕ, suc, if◌then◌else◌, Bool, true, false, List, [], ◌∷◌, ◌++◌, Some, None, Option}
use Rattle.std.specs.List.{flat_map}
use Rattle.meetings.specs.declared.meet.First.{First}
use Rattle.meetings.specs.declared.meet.First.TheVariants.{Lower, Other}
use Rattle.meetings.specs.declared.meet.Meeting.{Meeting}
use Rattle.meetings.specs.declared.stays.At.{At}
use Rattle.traffic.specs.Index.{order_at}
use Rattle.traffic.specs.Plans.{is_same_stop}
use Rattle.traffic.specs.Scene.{at}
use Rattle.floor.specs.declared.index.Touch.{Touch}

-- at a meeting, by its number, the stop after the other's, if the other goes first
abbrev pub touch : ℕ → At → First → Touch
touch j other first = record { meeting = j; shuttle = other.shuttle; stop = suc other.stop; first = first }

-- of the stop that a test names, if it is one of the two
abbrev pub touches_of : (At → Bool) → ℕ → Meeting → List Touch
touches_of is j m =
    if is m.lower then touch j m.other Other ∷ []
    else if is m.other then touch j m.lower Lower ∷ []
    else []

-- at meetings that are numbered from j on
abbrev pub touches_from : (At → Bool) → ℕ → List Meeting → List Touch
touches_from is j [] = []
touches_from is j (m ∷ ms) = touches_of is j m ++ touches_from is (suc j) ms

-- of a stop, at all meetings
abbrev pub touches_at : List Meeting → At → List Touch
touches_at ms a = touches_from (λ b. is_same_stop b a) 0 ms

-- what is waited for at a touch, by the order for its meeting
abbrev pub is_same_first : First → First → Bool
is_same_first Lower Lower = true
is_same_first Lower Other = false
is_same_first Other Lower = false
is_same_first Other Other = true

abbrev pub touched_by : Touch → Option First → List At
touched_by t None = []
touched_by t (Some first) = if is_same_first first t.first then at t.shuttle t.stop ∷ [] else []

abbrev pub touched : List (Option First) → Touch → List At
touched orders t = touched_by t (order_at orders t.meeting)

-- at some touches
abbrev pub awaited_at : List (Option First) → List Touch → List At
awaited_at orders ts = flat_map (touched orders) ts
