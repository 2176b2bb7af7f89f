-- A cost as a call names it.
use Rattle.std.specs.Prelude.{◌≡◌, ℕ}
use Rattle.costs.specs.Laws.{IsCost}

-- a total to start with, a rule for the next total, and what every cost keeps
pub record Costing : Type 0 where
  pub start : ℕ
  pub next : ℕ → ℕ → ℕ → ℕ
  pub is : IsCost start next

-- a cost with this start and this rule
pub record IsCostOf (start : ℕ) (next : ℕ → ℕ → ℕ → ℕ) (cost : Costing) : Type 0 where
  pub starts : cost.start ≡ start
  pub goes_on : cost.next ≡ next
