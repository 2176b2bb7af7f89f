-- The orders that words stand for: bit k of a word is the open meeting of rank k.
use Rattle.std.specs.Prelude.{◌≡◌, ℕ, ◌^◌, ◌<◌, Bool, if◌then◌else◌, not, ◌&&◌, List, map, length, Some, None, Option, IsFalse}
use Rattle.std.specs.List.{range_with_len}
use Rattle.std.proofs.Math.Nat.{ℕ_set}
use mathlib.Core.Sum.{⊎_set}
use Rattle.meetings.specs.declared.meet.First.{First}
use Rattle.meetings.specs.declared.meet.First.TheVariants.{Lower, Other}
use Rattle.traffic.specs.Index.{order_at}
use Rattle.floor.specs.Words.{bit}
use Rattle.run.specs.Lawful.{first_at, Agrees}
use Rattle.run.specs.Opens.{open_at, open_meetings, rank}
use Rattle.run.specs.State.{State}

abbrev pub turned_first : First → First
turned_first Lower = Other
turned_first Other = Lower

abbrev pub first_or_turned : Bool → First → First
first_or_turned turns first = if turns then turned_first first else first

-- who goes first at a meeting by a word: as in force, or turned where the meeting is open and its
-- bit is set
abbrev pub first_by : State → (word j : ℕ) → First
first_by st word j = first_or_turned (open_at st j && bit word (rank st j)) (first_at st.firsts j)

-- the complete orders of a word
abbrev pub orders_of_word : State → ℕ → List First
orders_of_word st word = map (first_by st word) (range_with_len 0 (length st.firsts))

-- the same where an open meeting whose bit is not decided is left out
abbrev pub order_by : State → (decided turned j : ℕ) → Option First
order_by st decided turned j =
    if open_at st j && not (bit decided (rank st j)) then None else Some (first_by st turned j)

-- the orders that a node stands for
abbrev pub orders_of : State → (decided turned : ℕ) → List (Option First)
orders_of st decided turned = map (order_by st decided turned) (range_with_len 0 (length st.firsts))

-- The complete orders of all words are just those that name a first at each meeting and agree with
-- those in force wherever a meeting is not open. The word is below 2 ^ n, of n open meetings.
pub record WordsLaw (st : State) : Type 0 where
  pub count : (word : ℕ) → length (orders_of_word st word) ≡ length st.firsts
  pub agree : (word : ℕ) → Agrees st (orders_of_word st word)
  pub all :
      (orders : List First) → length orders ≡ length st.firsts → Agrees st orders
      → (word : ℕ) × (word < 2 ^ length (open_meetings st)) × (orders ≡ orders_of_word st word)

-- An order for each meeting; where a meeting is not open, it is that in force.
pub record KeepsClosed (st : State) (orders : List (Option First)) : Type 0 where
  pub count : length orders ≡ length st.firsts
  pub closed :
      (j : ℕ) → j < length st.firsts → IsFalse (open_at st j)
      → order_at orders j ≡ Some (first_at st.firsts j)

-- there is one proof of it at most
pub keeps_closed_prop : (st : State) (orders : List (Option First)) → IsProp (KeepsClosed st orders)
keeps_closed_prop st orders = hlevel (ℕ_set, ⊎_set)
