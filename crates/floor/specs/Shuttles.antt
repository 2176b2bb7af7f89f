-- What a list of shuttle records says.
use Rattle.std.specs.Prelude.{ℕ, suc, ◌+◌, ◌-◌, ◌<◌, Bool, cond, List, [], ◌∷◌, replicate, slice_index_or}
use Rattle.std.specs.List.{AllByRecursion}
use Rattle.floor.specs.declared.table.Shuttle.{Shuttle}

-- at stop 0, without a hold
abbrev pub fresh : Shuttle
fresh = record { stop = 0; hold = 0 }

abbrev pub all_fresh : ℕ → List Shuttle
all_fresh n = replicate n fresh

-- a record by its number; beyond the list there is a fresh one
abbrev pub shuttle_at : List Shuttle → ℕ → Shuttle
shuttle_at xs s = slice_index_or xs s fresh

-- the last stop entered, and the hold
abbrev pub stop_in : List Shuttle → ℕ → ℕ
stop_in xs s = (shuttle_at xs s).stop

abbrev pub hold_in : List Shuttle → ℕ → ℕ
hold_in xs s = (shuttle_at xs s).hold

-- the same shuttle with another hold
abbrev pub holding : ℕ → Shuttle → Shuttle
holding ticks x = record { stop = x.stop; hold = ticks }

-- a shuttle after a tick, by whether it moves
abbrev pub step : Bool → Shuttle → Shuttle
step moves x = record { stop = x.stop + cond moves 1 0; hold = x.hold - 1 }

-- all together, from shuttle s on
abbrev pub stepped : (ℕ → Bool) → ℕ → List Shuttle → List Shuttle
stepped moves s [] = []
stepped moves s (x ∷ xs) = step (moves s) x ∷ stepped moves (suc s) xs

-- stops that can be counted on
abbrev pub CanStep : List Shuttle → Type 0
CanStep xs = AllByRecursion (λ (x : Shuttle). x.stop < 65536) xs
