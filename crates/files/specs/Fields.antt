-- The fields of a plan file by their places, each with its own rule, and what is wrong with a file that is refused.
use Rattle.std.specs.Prelude.{◌≡◌, ℕ, zero, suc, ◌+◌, ◌*◌, ◌<◌, ◌≤◌, ◌⊎◌, List, length, Err, slice_get}
use Rattle.files.specs.declared.plan.TheConstants.{MOST_SHUTTLES, MOST_STOPS, MOST_STOPS_IN_ALL, MOST_TABLES}
use Rattle.files.specs.Bytes.{plan_bytes, Limits}
use Rattle.files.specs.Layout.{Layout, word, tables_at, bodies_at, layout}

-- What the fields of a file say: how many shuttles, how many tables, the stops of shuttle s, and table k. A byte that is missing counts as 0.
abbrev pub shuttles_in : List ℕ → ℕ
shuttles_in bs = word bs 0

abbrev pub tables_in : List ℕ → ℕ
tables_in bs = word bs 2

abbrev pub stops_in : List ℕ → ℕ → ℕ
stops_in bs s = word bs (6 + 4 * s)

abbrev pub table_in : List ℕ → ℕ → ℕ
table_in bs k = word bs (tables_at (shuttles_in bs) + 2 * k)

-- the stops of all shuttles below s
abbrev pub stops_below : List ℕ → ℕ → ℕ
stops_below bs zero = 0
stops_below bs (suc s) = stops_below bs s + stops_in bs s

-- where the body of shuttle s begins, and where the last body ends
abbrev pub body_in : List ℕ → ℕ → ℕ
body_in bs s = bodies_at (shuttles_in bs) (tables_in bs) + 4 * stops_below bs s

abbrev pub end_in : List ℕ → ℕ
end_in bs = body_in bs (shuttles_in bs)

-- The fields that have a rule: the number of shuttles, the number of tables, the offset and the stop count of a shuttle, and a table. The numbers of a stop have none.
pub data Field : Type 0 where
  Shuttles : Field
  Tables : Field
  Offset : (s : ℕ) → Field
  Stops : (s : ℕ) → Field
  TablePlace : (k : ℕ) → Field

abbrev pub place_of : List ℕ → Field → ℕ
place_of bs Shuttles = 0
place_of bs Tables = 2
place_of bs (Offset s) = 4 + 4 * s
place_of bs (Stops s) = 6 + 4 * s
place_of bs (TablePlace k) = tables_at (shuttles_in bs) + 2 * k

-- There are as many offsets and stop counts as shuttles, and as many tables as the file says.
abbrev pub Has : List ℕ → Field → Type 0
Has bs Shuttles = Unit {0}
Has bs Tables = Unit {0}
Has bs (Offset s) = s < shuttles_in bs
Has bs (Stops s) = s < shuttles_in bs
Has bs (TablePlace k) = k < tables_in bs

-- the rule of a field
abbrev pub FieldKeeps : List ℕ → Field → Type 0
FieldKeeps bs Shuttles = (1 ≤ shuttles_in bs) × (shuttles_in bs ≤ MOST_SHUTTLES)
FieldKeeps bs Tables = tables_in bs ≤ MOST_TABLES
FieldKeeps bs (Offset s) = word bs (4 + 4 * s) ≡ body_in bs s
FieldKeeps bs (Stops s) =
    (1 ≤ stops_in bs s)
    × (stops_in bs s ≤ MOST_STOPS)
    × (stops_below bs (suc s) ≤ MOST_STOPS_IN_ALL)
FieldKeeps bs (TablePlace zero) = Unit {0}
FieldKeeps bs (TablePlace (suc k)) = table_in bs k < table_in bs (suc k)

-- a field breaks its rule
abbrev pub BreaksAt : List ℕ → ℕ → Type 0
BreaksAt bs at =
    (f : Field) × Has bs f × (place_of bs f ≡ at) × (at + 2 ≤ length bs) × (FieldKeeps bs f → ⊥)

-- the file ends before the last body does
abbrev pub EndsAt : List ℕ → ℕ → Type 0
EndsAt bs at = (at ≡ length bs) × (length bs < end_in bs)

-- the file goes on behind the last body
abbrev pub GoesOnAt : List ℕ → ℕ → Type 0
GoesOnAt bs at = (at ≡ end_in bs) × (end_in bs < length bs)

-- There is a fault at a place, and every field that lies wholly before it keeps its rule.
pub record FirstFault (bs : List ℕ) (at : ℕ) : Type 0 where
  pub fault : BreaksAt bs at ⊎ (EndsAt bs at ⊎ GoesOnAt bs at)
  pub within : at ≤ length bs
  pub before : (f : Field) → Has bs f → place_of bs f + 2 ≤ at → FieldKeeps bs f

-- No file of a plan within the limits is the same through the field at a place; a byte that only one of the two has is a difference.
abbrev pub NoPlanAgrees : List ℕ → ℕ → Type 0
NoPlanAgrees bs at =
    (l : Layout) → Limits l
    → ((k : ℕ) → k < at + 2 → slice_get bs k ≡ slice_get (plan_bytes l) k) → ⊥

-- A file is refused with a place exactly when its first fault is there, and then no plan's file is the same so far.
abbrev pub RefusesExactly : List ℕ → Type 0
RefusesExactly bs =
    (at : ℕ)
    → (layout bs ≡ Err at → FirstFault bs at × NoPlanAgrees bs at)
    × (FirstFault bs at → layout bs ≡ Err at)
