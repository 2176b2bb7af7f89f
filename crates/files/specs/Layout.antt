-- The layout of a plan file. Numbers have 16 bits, high byte first. A reading is Ok with what was read, or Err with the byte place of the first fault.
use Rattle.std.specs.Prelude.{ℕ, zero, suc, ◌+◌, ◌-◌, ◌*◌, min, cond, ◌&&◌, List, [], ◌∷◌, ◌++◌, length, Ok, Err, sum, Result, nat_le, slice_index}
use Rattle.files.specs.declared.plan.Stop.{Stop}
use Rattle.files.specs.declared.plan.TheConstants.{MOST_SHUTTLES, MOST_STOPS, MOST_STOPS_IN_ALL, MOST_TABLES}

-- what a plan file holds
pub record Layout : Type 0 where
  pub paths : List (List Stop)
  pub tables : List ℕ

-- what was read goes on; a fault ends the reading
abbrev pub then : {X Y : Type 0} → Result X ℕ → (X → Result Y ℕ) → Result Y ℕ
then (Ok x) next = next x
then (Err place) next = Err place

-- n things in a row: `one` reads a thing at a state, and `on` is the state after it
abbrev pub row : {S X : Type 0} → (S → Result X ℕ) → (S → X → S) → ℕ → S → List X → Result (List X) ℕ
row one on zero s xs = Ok xs
row one on (suc n) s xs = then (one s) λ x. row one on n (on s x) (xs ++ x ∷ [])

-- the number whose first byte stands at a place
abbrev pub word : List ℕ → ℕ → ℕ
word bs at = slice_index bs at * 256 + slice_index bs (at + 1)

-- A field is a number from low to high. Where a byte is missing the fault is the file's length, else it is the field's place.
abbrev pub field : ℕ → ℕ → ℕ → List ℕ → Result ℕ ℕ
field low high at bs =
    cond (nat_le (at + 2) (length bs)) (cond (nat_le low (word bs at) && nat_le (word bs at) high) (Ok (word bs at)) (Err at)) (Err (length bs))

-- An entry of the contents: the offset, which is where the body begins, and the stop count, from 1 to the most of a path, and at most the stops that there is room for.
pub record Entry : Type 0 where
  pub at : ℕ
  pub begin : ℕ
  pub room : ℕ

abbrev pub entry : List ℕ → Entry → Result ℕ ℕ
entry bs e = then (field e.begin e.begin e.at bs) λ _. field 1 (min e.room MOST_STOPS) (e.at + 2) bs

abbrev pub next_entry : Entry → ℕ → Entry
next_entry e count = record { at = e.at + 4; begin = e.begin + 4 * count; room = e.room - count }

abbrev pub contents : List ℕ → ℕ → ℕ → Result (List ℕ) ℕ
contents bs n begin = row (entry bs) next_entry n (record { at = 4; begin = begin; room = MOST_STOPS_IN_ALL }) []

-- A table: a place that is greater than the one before.
pub record Table : Type 0 where
  pub at : ℕ
  pub low : ℕ

abbrev pub table : List ℕ → Table → Result ℕ ℕ
table bs t = field t.low 65535 t.at bs

abbrev pub next_table : Table → ℕ → Table
next_table t place = record { at = t.at + 2; low = place + 1 }

abbrev pub tables : List ℕ → ℕ → ℕ → Result (List ℕ) ℕ
tables bs n at = row (table bs) next_table n (record { at = at; low = 0 }) []

-- A stop: a place and a tick.
abbrev pub stop : List ℕ → ℕ → Result Stop ℕ
stop bs at = then (field 0 65535 at bs) λ place. then (field 0 65535 (at + 2) bs) λ tick. Ok (record { place = place; tick = tick })

abbrev pub next_stop : ℕ → Stop → ℕ
next_stop at s = at + 4

abbrev pub stops : List ℕ → ℕ → ℕ → Result (List Stop) ℕ
stops bs n at = row (stop bs) next_stop n at []

-- A body: the stops of one path, as many as the contents say.
pub record Body : Type 0 where
  pub at : ℕ
  pub shuttle : ℕ

abbrev pub body : List ℕ → List ℕ → Body → Result (List Stop) ℕ
body bs counts b = stops bs (slice_index counts b.shuttle) b.at

abbrev pub next_body : Body → List Stop → Body
next_body b path = record { at = b.at + 4 * length path; shuttle = b.shuttle + 1 }

abbrev pub bodies : List ℕ → List ℕ → ℕ → Result (List (List Stop)) ℕ
bodies bs counts at = row (body bs counts) next_body (length counts) (record { at = at; shuttle = 0 }) []

-- Nothing follows the last body.
abbrev pub ended : List ℕ → ℕ → Layout → Result Layout ℕ
ended bs at l = cond (nat_le (length bs) at) (Ok l) (Err at)

-- where the tables begin, and where the first body begins
abbrev pub tables_at : ℕ → ℕ
tables_at shuttles = 4 + 4 * shuttles

abbrev pub bodies_at : ℕ → ℕ → ℕ
bodies_at shuttles places = 4 + 4 * shuttles + 2 * places

-- A whole file: the number of shuttles, that of tables, the contents, the tables, the bodies, and the end.
abbrev pub layout : List ℕ → Result Layout ℕ
layout bs =
    then (field 1 MOST_SHUTTLES 0 bs) λ shuttles.
    then (field 0 MOST_TABLES 2 bs) λ places.
    then (contents bs shuttles (bodies_at shuttles places)) λ counts.
    then (tables bs places (tables_at shuttles)) λ ts.
    then (bodies bs counts (bodies_at shuttles places)) λ ps.
    ended bs (bodies_at shuttles places + 4 * sum counts) (record { paths = ps; tables = ts })
