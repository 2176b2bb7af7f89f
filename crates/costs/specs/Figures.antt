-- What a layer hands on in place of an arrival.
use Rattle.std.specs.Prelude.{ℕ, ◌-◌, ◌*◌, ◌^◌, min, List, slice_index}

-- the figure of a shuttle; one above 31 has that of 31
abbrev pub figure : List ℕ → ℕ → ℕ
figure figures shuttle = slice_index figures (min shuttle 31)

-- the ticks past a due tick, or 0
abbrev pub ticks_past : ℕ → ℕ → ℕ
ticks_past due arrival = arrival - due

-- an arrival times a weight, which counts as 1,000 at most; it stays at the greatest arrival
abbrev pub weighed_arrival : ℕ → ℕ → ℕ
weighed_arrival weight arrival = min (arrival * min weight 1000) (2 ^ 32 - 1)
