-- The laws of meetings, clashes and the plan's orders.
use Rattle.std.specs.Prelude.{◌≡◌, ℕ, suc, ◌<◌, true, false, ◌⊎◌, List, [], ◌∷◌, length}
use Rattle.std.specs.List.{ContainsAt, AllByRecursion}
use Rattle.files.specs.declared.plan.Stop.{Stop}
use Rattle.files.specs.Rules.{stop_at, path_at, PathsKeep}
use Rattle.meetings.specs.declared.clash.Clash.{Clash}
use Rattle.meetings.specs.declared.meet.First.{First}
use Rattle.meetings.specs.declared.meet.First.TheVariants.{Lower, Other}
use Rattle.meetings.specs.declared.meet.Meeting.{Meeting}
use Rattle.meetings.specs.declared.stays.At.{At}
use Rattle.meetings.specs.declared.stays.Stay.{Stay}
use Rattle.meetings.specs.Collisions.{CollideAt, SomeCollision, NoCollision}
use Rattle.meetings.specs.Meetings.{meetings, meeting_between, clashes, stay_in, NoClash, FirstClash, is_left_before}
use Rattle.meetings.specs.Stays.{stay_of_stop, stays}

-- a stop of a plan
abbrev pub StopOf : List (List Stop) → At → Type 0
StopOf ps a = (a.shuttle < length ps) × (a.stop < length (path_at ps a.shuttle))

abbrev pub stop_of : List (List Stop) → At → Stop
stop_of ps a = stop_at (path_at ps a.shuttle) a.stop

abbrev pub stay_of : List (List Stop) → At → Stay
stay_of ps a = stay_of_stop a.shuttle (path_at ps a.shuttle) a.stop

-- the one that leaves strictly before the other enters goes first
abbrev pub GoesFirst : List (List Stop) → Meeting → Type 0
GoesFirst ps m = (is_left_before (stay_of ps m.lower) (stay_of ps m.other) ≡ true → m.first ≡ Lower) × (is_left_before (stay_of ps m.lower) (stay_of ps m.other) ≡ false → m.first ≡ Other)

-- a meeting is two stops of different shuttles, that of the lower first, at one place
pub record Meets (ps : List (List Stop)) (m : Meeting) : Type 0 where
  pub lower : StopOf ps m.lower
  pub other : StopOf ps m.other
  pub ordered : m.lower.shuttle < m.other.shuttle
  pub place : (stop_of ps m.lower).place ≡ (stop_of ps m.other).place
  pub first : GoesFirst ps m

-- by shuttle, then by stop
abbrev pub Earlier : At → At → Type 0
Earlier a b = (a.shuttle < b.shuttle) ⊎ ((a.shuttle ≡ b.shuttle) × (a.stop < b.stop))

-- by the lower shuttle, its stop, the other shuttle, its stop
abbrev pub Precedes : Meeting → Meeting → Type 0
Precedes m n = Earlier m.lower n.lower ⊎ ((m.lower ≡ n.lower) × Earlier m.other n.other)

-- each comes before all later ones
abbrev pub Ascending : {X : Type 0} → (X → X → Type 0) → List X → Type 0
Ascending R [] = Unit {0}
Ascending R (x ∷ xs) = AllByRecursion (R x) xs × Ascending R xs

-- The list holds exactly the meetings of the plan, in meeting order.
pub record MeetingsLaw (ps : List (List Stop)) : Type 0 where
  pub sound : (m : Meeting) → ContainsAt (meetings ps) m → Meets ps m
  pub complete : (m : Meeting) → Meets ps m → ContainsAt (meetings ps) m
  pub ordered : Ascending Precedes (meetings ps)

abbrev pub SomeClash : List Stay → Type 0
SomeClash xs = (k : ℕ) × (l : ℕ) × (k < l) × (l < length xs) × (clashes (stay_in xs k) (stay_in xs l) ≡ true)

-- For paths that keep the rules, some meeting clashes exactly when two paths collide.
abbrev pub ClashLaw : List (List Stop) → Type 0
ClashLaw ps = PathsKeep ps → (SomeClash (stays ps) → SomeCollision ps) × (SomeCollision ps → SomeClash (stays ps))

-- And none does exactly when no two paths collide.
abbrev pub ClearLaw : List (List Stop) → Type 0
ClearLaw ps =
    PathsKeep ps → (NoClash (stays ps) → NoCollision ps) × (NoCollision ps → NoClash (stays ps))

-- stop a is left strictly before stop b is entered: there is a following stop, with a tick below that of b
abbrev pub LeftBefore : List (List Stop) → At → At → Type 0
LeftBefore ps a b = (suc a.stop < length (path_at ps a.shuttle)) × ((stop_at (path_at ps a.shuttle) (suc a.stop)).tick < (stop_of ps b).tick)

-- who goes first is left before the other enters, and not the other way round
abbrev pub OneFirst : List (List Stop) → Meeting → First → Type 0
OneFirst ps m Lower = LeftBefore ps m.lower m.other × (LeftBefore ps m.other m.lower → ⊥)
OneFirst ps m Other = LeftBefore ps m.other m.lower × (LeftBefore ps m.lower m.other → ⊥)

-- Where no two stays clash, exactly one shuttle leaves each meeting strictly before the other enters: the one that goes first in the plan.
abbrev pub FirstLaw : List (List Stop) → Type 0
FirstLaw ps = PathsKeep ps → NoClash (stays ps) → (m : Meeting) → ContainsAt (meetings ps) m → OneFirst ps m m.first

-- the meeting of two stops of a plan
abbrev pub meeting_of_stops : List (List Stop) → At → At → Meeting
meeting_of_stops ps a b = meeting_between (stay_of ps a) (stay_of ps b)

-- The two stops of a clash are a meeting of the plan, neither is left before the other is entered, and their shuttles collide in its place. At each meeting before it one shuttle leaves before the other enters.
pub record FirstCollision (ps : List (List Stop)) (c : Clash) : Type 0 where
  pub meeting : Meets ps (meeting_of_stops ps c.lower c.other)
  pub lower_stays : LeftBefore ps c.lower c.other → ⊥
  pub other_stays : LeftBefore ps c.other c.lower → ⊥
  pub collide :
      CollideAt (path_at ps c.lower.shuttle) (path_at ps c.other.shuttle) (stop_of ps c.lower).place
  pub before :
      (m : Meeting) → Meets ps m → Precedes m (meeting_of_stops ps c.lower c.other)
      → OneFirst ps m m.first

-- For paths that keep the rules, the first two stays that clash are the first collision in meeting order.
abbrev pub FirstCollisionLaw : List (List Stop) → Type 0
FirstCollisionLaw ps = PathsKeep ps → (c : Clash) → FirstClash (stays ps) c → FirstCollision ps c
