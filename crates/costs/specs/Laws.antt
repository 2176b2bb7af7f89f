-- What every cost keeps, and what follows of totals. A total is below 2 ^ 64, and an arrival below
-- 2 ^ 32; the shuttle may be any.
use Rattle.std.specs.Prelude.{ℕ, ◌^◌, ◌<◌, ◌≤◌, List}
use Rattle.std.specs.List.{All, AllZip}
use Rattle.costs.specs.Totals.{total}

-- A later arrival never gives a smaller next total.
abbrev pub LaterNeverLess : (ℕ → ℕ → ℕ → ℕ) → Type 0
LaterNeverLess next =
    (t shuttle a b : ℕ)
    → t < 2 ^ 64 → b < 2 ^ 32 → a ≤ b → next t shuttle a ≤ next t shuttle b

-- Neither does a greater total.
abbrev pub GreaterNeverLess : (ℕ → ℕ → ℕ → ℕ) → Type 0
GreaterNeverLess next =
    (t u shuttle a : ℕ)
    → u < 2 ^ 64 → a < 2 ^ 32 → t ≤ u → next t shuttle a ≤ next u shuttle a

-- The start is a total, and so is what comes of a total.
abbrev pub GivesTotals : ℕ → (ℕ → ℕ → ℕ → ℕ) → Type 0
GivesTotals start next =
    (start < 2 ^ 64)
    × ((t shuttle a : ℕ) → t < 2 ^ 64 → a < 2 ^ 32 → next t shuttle a < 2 ^ 64)

-- what every cost keeps, of its start and its rule for the next total
pub record IsCost (start : ℕ) (next : ℕ → ℕ → ℕ → ℕ) : Type 0 where
  pub later : LaterNeverLess next
  pub greater : GreaterNeverLess next
  pub fits : GivesTotals start next

-- No arrivals that are each no earlier than these have a total below t.
abbrev pub NoneLaterIsLess : ℕ → (ℕ → ℕ → ℕ → ℕ) → List ℕ → ℕ → Type 0
NoneLaterIsLess start next arrivals t =
    (later : List ℕ)
    → All (λ b. b < 2 ^ 32) later → AllZip (λ a b. a ≤ b) arrivals later
    → t ≤ total start next later

-- So no arrivals that are each no earlier have a smaller total.
abbrev pub TotalsNeverLess : Type 0
TotalsNeverLess =
    (start : ℕ) (next : ℕ → ℕ → ℕ → ℕ) → IsCost start next
    → (arrivals : List ℕ) → NoneLaterIsLess start next arrivals (total start next arrivals)
