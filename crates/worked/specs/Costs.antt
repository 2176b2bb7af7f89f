-- The costs by which the worked plans are drafted.
use Rattle.std.specs.Prelude.{ℕ, max}
use Rattle.std.proofs.Common.{arith}
use Rattle.costs.specs.Laws.{IsCost}
use Rattle.costs.specs.Totals.{total_with}
use Rattle.dispatch.specs.Costing.{Costing}

-- the sum of the arrivals
abbrev pub sum_next : (total shuttle arrival : ℕ) → ℕ
sum_next total shuttle arrival = total_with total arrival

pub sum_is_cost : IsCost 0 sum_next
sum_is_cost = record {
  later = λ t shuttle a b t_fits b_fits le. omega (arith, le);
  greater = λ t u shuttle a u_fits a_fits le. omega (arith, le);
  fits = (omega arith, λ t shuttle a t_fits a_fits. omega arith);
}

abbrev pub by_sum : Costing
by_sum = record { start = 0; next = sum_next; is = sum_is_cost }

-- the last arrival
abbrev pub last_next : (total shuttle arrival : ℕ) → ℕ
last_next total shuttle arrival = max total arrival

pub last_is_cost : IsCost 0 last_next
last_is_cost = record {
  later = λ t shuttle a b t_fits b_fits le. omega (arith, le);
  greater = λ t u shuttle a u_fits a_fits le. omega (arith, le);
  fits = (omega arith, λ t shuttle a t_fits a_fits. omega (arith, t_fits, a_fits));
}

abbrev pub by_last : Costing
by_last = record { start = 0; next = last_next; is = last_is_cost }
