-- Reading an order file back.
use Rattle.std.specs.Prelude.{◌≡◌, ℕ, ◌+◌, ◌*◌, ◌<◌, List, length, Ok, Err, vec_items, Result, Vec, slice_index_or}
use Rattle.std.specs.declared.alloc.Global.{Global}
use Rattle.files.specs.Layout.{word}
use Rattle.meetings.specs.declared.meet.First.{First}
use Rattle.meetings.specs.declared.meet.First.TheVariants.{Lower, Other}
use Rattle.meetings.specs.declared.meet.Meeting.{Meeting}
use Rattle.orders.specs.declared.read.ReadFault.{ReadFault}
use Rattle.orders.specs.declared.read.ReadFault.TheVariants.{Memory}
use Rattle.orders.specs.declared.waits.Wait.{Wait}
use Rattle.orders.specs.Waits.{wait_under}

-- the three numbers at a place are those of a wait
abbrev pub EntryIs : List ℕ → ℕ → Wait → Type 0
EntryIs bs at w = (word bs at ≡ w.second.stop) × (word bs (at + 2) ≡ w.awaited.shuttle) × (word bs (at + 4) ≡ w.awaited.stop)

-- a wait is among the entries from a place on
abbrev pub Lists : List ℕ → ℕ → ℕ → Wait → Type 0
Lists bs begin count w = (k : ℕ) × (k < count) × EntryIs bs (begin + 6 * k) w

-- the body of the lower shuttle, as the file's contents say, has the wait for the other
abbrev pub LowerWaits : List ℕ → Meeting → Type 0
LowerWaits bs m = Lists bs (word bs (2 + 4 * m.lower.shuttle)) (word bs (4 + 4 * m.lower.shuttle)) (wait_under m Other)

abbrev pub Guessed : List ℕ → Meeting → First → Type 0
Guessed bs m Other = LowerWaits bs m
Guessed bs m Lower = LowerWaits bs m → ⊥

-- a guess for each meeting, unless memory was wanting
abbrev pub Guesses : Result (Vec First Global) ReadFault → List ℕ → List Meeting → Type 0
Guesses (Ok v) bs ms =
    (length (vec_items v) ≡ length ms)
    × ((k : ℕ) → k < length ms → Guessed bs (slice_index_or ms k (record { lower = record { shuttle = 0; stop = 0 }; other = record { shuttle = 0; stop = 0 }; first = Lower })) (slice_index_or (vec_items v) k Lower))
Guesses (Err e) bs ms = e ≡ Memory
