-- Arrivals and next stops.
use Rattle.std.specs.Prelude.{ℕ, ◌<◌, ◌↔◌, List, length, Option, IsSome, slice_index}
use Rattle.std.specs.Option.{option_and_then}
use Rattle.run.specs.Asks.{next_of}
use Rattle.run.specs.State.{State}

-- the arrivals tell who has a next stop: just theirs are above 0
abbrev pub TellsNextStops : Option State → List ℕ → Type 0
TellsNextStops st arrivals =
    (s : ℕ) → s < length arrivals
    → (0 < slice_index arrivals s) ↔ IsSome (option_and_then (next_of s) st)
