-- A search by its steps, over rows of nodes. Where each node is put is given by a list of places.
use Rattle.std.specs.Prelude.{ℕ, suc, zero, ◌+◌, if◌then◌else◌, nat_lt, List, [], ◌∷◌, drop, length, slice_index, Result, Ok, Err}
use Rattle.std.specs.List.{insert}
use Rattle.lists.specs.Moves.{Move, Clear, Put, Refuse, Take}
use Rattle.lists.specs.declared.node.Node.{Node}
use Rattle.search.specs.Decisions.{with_bit}
use Rattle.search.specs.Questions.{Question}
use Rattle.search.specs.declared.finding.Finding.{Finding}
use Rattle.search.specs.declared.finding.Finding.TheVariants.{Ring, Done, Branch}
use Rattle.search.specs.declared.found.Best.{Best}
use Rattle.search.specs.declared.found.Found.{Found}
use Rattle.search.specs.declared.found.SearchFault.{SearchFault}
use Rattle.search.specs.declared.found.SearchFault.TheVariants.{Full, Budget}

-- what a search answers, and the moves that its list makes
pub record Course : Type 0 where
  pub answer : Result Found SearchFault
  pub moves : List (Move Node)

-- a move before a course
abbrev pub after : Move Node → Course → Course
after move course = record { answer = course.answer; moves = move ∷ course.moves }

-- the end of a search, at which the list is cleared
abbrev pub ends : Result Found SearchFault → Course
ends answer = record { answer = answer; moves = Clear ∷ [] }

-- where the cost found is not below the best, the node is dropped like one with a ring
abbrev pub if_below : ℕ → Finding → Finding
if_below best Ring = Ring
if_below best (Done cost) = if nat_lt cost best then Done cost else Ring
if_below best (Branch cost next) = if nat_lt cost best then Branch cost next else Ring

-- so is a node whose bound is not below the best cost, and it is not even looked at
abbrev pub look : Question → ℕ → Node → Finding
look q best node =
    if nat_lt node.bound best then if_below best (q.finding node.decided node.turned) else Ring

-- a node that is done becomes the best
abbrev pub best_after : Best → Node → Finding → Best
best_after best node Ring = best
best_after best node (Done cost) = record { turned = node.turned; cost = cost }
best_after best node (Branch cost next) = best

-- the nodes to put: with the meeting named kept, and then with it turned
abbrev pub children : Node → Finding → List Node
children node Ring = []
children node (Done cost) = []
children node (Branch cost next) =
    let decided = with_bit node.decided next in
    record { bound = cost; decided = decided; turned = node.turned }
    ∷ record { bound = cost; decided = decided; turned = with_bit node.turned next }
    ∷ []

-- puts nodes one after another, each at the next of the places, and goes on with the row and the
-- places left; a node that there is no room for ends the search
abbrev pub put_each :
    (room taken : ℕ) → List Node → (List Node → List ℕ → Course) → List Node → List ℕ → Course
put_each room taken [] go_on row places = go_on row places
put_each room taken (node ∷ nodes) go_on row places =
    if nat_lt (length row) room
    then after (Put node (slice_index places 0))
    (put_each room taken nodes go_on (insert row (slice_index places 0) node) (drop 1 places))
    else after (Refuse node) (ends (Err (Full taken)))

-- from a row on, where so many more nodes may be taken
abbrev pub go_on : Question → (room more taken : ℕ) → Best → List Node → List ℕ → Course
go_on q room more taken best [] places =
    ends (Ok (record { turned = best.turned; cost = best.cost; taken = taken }))
go_on q room zero taken best (node ∷ row) places = ends (Err (Budget taken))
go_on q room (suc more) taken best (node ∷ row) places =
    let found = look q best.cost node in
    let rest = go_on q room more (taken + 1) (best_after best node found) in
    after Take (put_each room (taken + 1) (children node found) rest row places)

-- from a row on, a node with nothing decided is put first; the best is what is in force
abbrev pub from_root : Question → (room budget : ℕ) → List Node → List ℕ → Course
from_root q room budget =
    put_each room 0 (record { bound = 0; decided = 0; turned = 0 } ∷ [])
    (go_on q room budget 0 (record { turned = 0; cost = q.start }))

-- a whole search, of a list that is cleared first
abbrev pub searched : Question → (room budget : ℕ) → (places : List ℕ) → Course
searched q room budget places = after Clear (from_root q room budget [] places)
