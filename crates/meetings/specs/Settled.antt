-- What settling meetings answers.
use Rattle.std.specs.Prelude.{◌≡◌, ◌<◌, ◌≤◌, false, List, length, Ok, Err, vec_items, Result, Vec}
use Rattle.std.specs.declared.alloc.Global.{Global}
use Rattle.files.specs.declared.plan.Stop.{Stop}
use Rattle.files.specs.Rules.{PathsKeep}
use Rattle.meetings.specs.declared.clash.Clash.{Clash}
use Rattle.meetings.specs.declared.meet.Meeting.{Meeting}
use Rattle.meetings.specs.declared.meet.MeetingFault.{MeetingFault}
use Rattle.meetings.specs.declared.meet.Meetings.{Meetings}
use Rattle.meetings.specs.declared.meet.MeetingFault.TheVariants.{TooMany, Collision, Memory}
use Rattle.meetings.specs.declared.meet.TheConstants.{MOST_MEETINGS}
use Rattle.meetings.specs.declared.stays.Stay.{Stay}
use Rattle.meetings.specs.Laws.{FirstCollision}
use Rattle.meetings.specs.Meetings.{meetings_of, meetings, NoClash, FirstClash}
use Rattle.meetings.specs.Stays.{stays}

-- all meetings, unless there are too many, and whether one of them clashes
abbrev pub Found : Result Meetings MeetingFault → List Stay → Type 0
Found (Ok m) xs = (vec_items m.all ≡ meetings_of xs) × (length (meetings_of xs) ≤ MOST_MEETINGS) × (m.clash ≡ false → NoClash xs)
Found (Err TooMany) xs = MOST_MEETINGS < length (meetings_of xs)
Found (Err (Collision c)) xs = ⊥
Found (Err Memory) xs = Unit {0}

-- Their number is judged before clashes, and the first clash in meeting order is given.
abbrev pub Settled : Result (Vec Meeting Global) MeetingFault → List (List Stop) → Type 0
Settled (Ok v) ps = (vec_items v ≡ meetings ps) × (length (meetings ps) ≤ MOST_MEETINGS) × NoClash (stays ps)
Settled (Err TooMany) ps = MOST_MEETINGS < length (meetings ps)
Settled (Err (Collision c)) ps = (length (meetings ps) ≤ MOST_MEETINGS) × FirstClash (stays ps) c
Settled (Err Memory) ps = Unit {0}

-- The two stops that are given for paths that keep the rules are those of the first collision.
abbrev pub GivesFirst : Result (Vec Meeting Global) MeetingFault → List (List Stop) → Type 0
GivesFirst r ps = (c : Clash) → r ≡ Err (Collision c) → PathsKeep ps → FirstCollision ps c
