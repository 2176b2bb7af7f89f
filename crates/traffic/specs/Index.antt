-- Meetings by the stops that take part in them.
use Rattle.std.specs.Prelude.{◌≡◌, ℕ, ◌<◌, Bool, ◌||◌, List, [], ◌∷◌, ◌++◌, length, Some, None, filter, Option, slice_index_or}
use Rattle.std.specs.List.{range_with_len, ContainsAt, AllByRecursion}
use Rattle.meetings.specs.declared.meet.First.{First}
use Rattle.meetings.specs.declared.meet.First.TheVariants.{Lower}
use Rattle.meetings.specs.declared.meet.Meeting.{Meeting}
use Rattle.meetings.specs.declared.stays.At.{At}
use Rattle.orders.specs.Waits.{wait_under}
use Rattle.traffic.specs.Plans.{is_same_stop, awaited_at, awaits}

-- whether a stop is one of the two of a meeting
abbrev pub has_part : At → Meeting → Bool
has_part a m = is_same_stop m.lower a || is_same_stop m.other a

-- what stands where there is no meeting
abbrev pub no_meeting : Meeting
no_meeting = record { lower = record { shuttle = 0; stop = 0 }; other = record { shuttle = 0; stop = 0 }; first = Lower }

-- a meeting by its number, and the order given to it; a meeting without one is left out
abbrev pub meeting_at : List Meeting → ℕ → Meeting
meeting_at ms j = slice_index_or ms j no_meeting

abbrev pub order_at : List (Option First) → ℕ → Option First
order_at orders j = slice_index_or orders j None

-- the numbers of the meetings at which a stop takes part
abbrev pub meetings_at : List Meeting → At → List ℕ
meetings_at ms a = filter (λ j. has_part a (meeting_at ms j)) (range_with_len 0 (length ms))

-- what a stop waits for at some meetings, by their numbers
abbrev pub awaited_in : List Meeting → List (Option First) → At → List ℕ → List At
awaited_in ms orders a [] = []
awaited_in ms orders a (j ∷ js) = awaited_at a (meeting_at ms j) (order_at orders j) ++ awaited_in ms orders a js

-- What a stop waits for is found at the meetings in which it takes part; and what it waits for at some meetings, by their numbers in turn.
pub record IndexLaw (ms : List Meeting) (orders : List (Option First)) (a : At) : Type 0 where
  pub found : awaits ms orders a ≡ awaited_in ms orders a (meetings_at ms a)
  pub below : AllByRecursion (λ j. j < length ms) (meetings_at ms a)
  pub joined : (js ks : List ℕ) → awaited_in ms orders a (js ++ ks) ≡ awaited_in ms orders a js ++ awaited_in ms orders a ks

abbrev pub WaitsAreIndexed : Type 0
WaitsAreIndexed = (ms : List Meeting) (orders : List (Option First)) (a : At) → IndexLaw ms orders a

-- One stop waits for another at a meeting, by its number: it is that of the second there, and the other follows the stop of the first.
pub record WaitsAt (ms : List Meeting) (orders : List (Option First)) (a b : At) : Type 0 where
  pub meeting : ℕ
  pub there : meeting < length ms
  pub first : First
  pub ordered : order_at orders meeting ≡ Some first
  pub wait : wait_under (meeting_at ms meeting) first ≡ record { second = a; awaited = b }

-- So it is with all that a stop waits for, and with nothing else.
abbrev pub StopsWaitExactly : Type 0
StopsWaitExactly =
    (ms : List Meeting) (orders : List (Option First)) (a b : At) → (ContainsAt (awaits ms orders a) b → WaitsAt ms orders a b) × (WaitsAt ms orders a b → ContainsAt (awaits ms orders a) b)
