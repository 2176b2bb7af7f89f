-- Meetings and clashes, over the stays of a plan in shuttle and stop order.
use Rattle.std.specs.Prelude.{◌≡◌, ℕ, ◌<◌, Bool, true, false, cond, not, ◌&&◌, List, [], ◌∷◌, ◌++◌, length, Some, None, Option, ◌==◌, nat_lt, slice_index_or}
use Rattle.std.specs.List.{flat_map}
use Rattle.files.specs.declared.plan.Stop.{Stop}
use Rattle.meetings.specs.declared.clash.Clash.{Clash}
use Rattle.meetings.specs.declared.meet.Meeting.{Meeting}
use Rattle.meetings.specs.declared.meet.First.TheVariants.{Lower, Other}
use Rattle.meetings.specs.declared.stays.Stay.{Stay}
use Rattle.meetings.specs.Stays.{stays}

-- a stay that ends at a tick, if at all, ends strictly before another tick
abbrev pub ends_before : Option ℕ → ℕ → Bool
ends_before None t = false
ends_before (Some u) t = nat_lt u t

-- the first stay is over strictly before the second begins
abbrev pub is_left_before : Stay → Stay → Bool
is_left_before x y = ends_before x.leave y.enter

-- two stays of different shuttles at one place
abbrev pub meets : Stay → Stay → Bool
meets x y = not (x.at.shuttle == y.at.shuttle) && x.place == y.place

-- the meeting of two stays; the one that leaves strictly before the other enters goes first
abbrev pub meeting_between : Stay → Stay → Meeting
meeting_between x y = record { lower = x.at; other = y.at; first = cond (is_left_before x y) Lower Other }

abbrev pub meet_with : Stay → Stay → List Meeting
meet_with x y = cond (meets x y) (meeting_between x y ∷ []) []

-- each stay with the later ones
abbrev pub meetings_of : List Stay → List Meeting
meetings_of [] = []
meetings_of (x ∷ xs) = flat_map (meet_with x) xs ++ meetings_of xs

-- the meetings of a plan, in meeting order
abbrev pub meetings : List (List Stop) → List Meeting
meetings ps = meetings_of (stays ps)

-- two stays clash when they meet and neither is over strictly before the other begins
abbrev pub clashes : Stay → Stay → Bool
clashes x y = meets x y && not (is_left_before x y) && not (is_left_before y x)

abbrev pub stay_in : List Stay → ℕ → Stay
stay_in xs k = slice_index_or xs k (record { at = record { shuttle = 0; stop = 0 }; place = 0; enter = 0; leave = None })

-- no stay before the a-th clashes with a later one
abbrev pub RowsClear : List Stay → ℕ → Type 0
RowsClear xs a = (k l : ℕ) → k < a → k < l → l < length xs → clashes (stay_in xs k) (stay_in xs l) ≡ false

-- the a-th stay clashes with none after it and before the b-th
abbrev pub RowClear : List Stay → ℕ → ℕ → Type 0
RowClear xs a b = (l : ℕ) → a < l → l < b → clashes (stay_in xs a) (stay_in xs l) ≡ false

abbrev pub NoClash : List Stay → Type 0
NoClash xs = (k l : ℕ) → k < l → l < length xs → clashes (stay_in xs k) (stay_in xs l) ≡ false

-- the first two stays that clash, in the order of meetings
pub record FirstClash (xs : List Stay) (c : Clash) : Type 0 where
  pub a : ℕ
  pub b : ℕ
  pub ordered : a < b
  pub within : b < length xs
  pub lower : c.lower ≡ (stay_in xs a).at
  pub other : c.other ≡ (stay_in xs b).at
  pub clash : clashes (stay_in xs a) (stay_in xs b) ≡ true
  pub rows : RowsClear xs a
  pub row : RowClear xs a b
