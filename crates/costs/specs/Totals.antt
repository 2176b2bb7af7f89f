-- Totals of arrivals. A cost's rule gives the next total from a total, a shuttle and its arrival.
use Rattle.std.specs.Prelude.{ℕ, ◌+◌, ◌-◌, ◌^◌, min, fold, List}
use Rattle.std.specs.List.{enumerate_from}

-- the total of the arrivals of all shuttles, in number order
abbrev pub total : ℕ → (ℕ → ℕ → ℕ → ℕ) → List ℕ → ℕ
total start next arrivals = fold (λ total numbered. next total numbered.0 numbered.1) start (enumerate_from 0 arrivals)

-- a total with an arrival added; it stays at the greatest total
abbrev pub total_with : ℕ → ℕ → ℕ
total_with total arrival = min (total + arrival) (2 ^ 64 - 1)
