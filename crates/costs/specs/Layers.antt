-- A layer that hands a changed arrival on keeps the laws of the cost below it.
use Rattle.std.specs.Prelude.{ℕ, ◌^◌, ◌<◌, ◌≤◌, min, List}
use Rattle.std.proofs.Common.{arith}
use Rattle.std.proofs.Math.Nat.{mul-le-mul_right}
use Rattle.costs.specs.Figures.{figure, ticks_past, weighed_arrival}
use Rattle.costs.specs.Laws.{LaterNeverLess, GreaterNeverLess, GivesTotals}

-- For each shuttle, a later arrival is handed on no earlier, and no arrival is handed on later than the greatest one.
pub record HandsOn (changed : ℕ → ℕ → ℕ) : Type 0 where
  pub later : (shuttle a b : ℕ) → a ≤ b → changed shuttle a ≤ changed shuttle b
  pub fits : (shuttle a : ℕ) → a < 2 ^ 32 → changed shuttle a < 2 ^ 32

pub layer_later : (changed : ℕ → ℕ → ℕ) (next : ℕ → ℕ → ℕ → ℕ) → HandsOn changed → LaterNeverLess next → LaterNeverLess (λ total shuttle arrival. next total shuttle (changed shuttle arrival))
layer_later changed next h l total shuttle a b total_fits b_fits le = l total shuttle (changed shuttle a) (changed shuttle b) total_fits (h.fits shuttle b b_fits) (h.later shuttle a b le)

pub layer_greater : (changed : ℕ → ℕ → ℕ) (next : ℕ → ℕ → ℕ → ℕ) → HandsOn changed → GreaterNeverLess next → GreaterNeverLess (λ total shuttle arrival. next total shuttle (changed shuttle arrival))
layer_greater changed next h g t u shuttle arrival u_fits fits le = g t u shuttle (changed shuttle arrival) u_fits (h.fits shuttle arrival fits) le

pub layer_fits : (changed : ℕ → ℕ → ℕ) (start : ℕ) (next : ℕ → ℕ → ℕ → ℕ) → HandsOn changed → GivesTotals start next → GivesTotals start (λ total shuttle arrival. next total shuttle (changed shuttle arrival))
layer_fits changed start next h f = (f.0, λ total shuttle arrival total_fits fits. f.1 total shuttle (changed shuttle arrival) total_fits (h.fits shuttle arrival fits))

pub past_hands_on : (dues : List ℕ) → HandsOn (λ shuttle arrival. ticks_past (figure dues shuttle) arrival)
past_hands_on dues = record { later = λ shuttle a b le. omega (arith, le); fits = λ shuttle a fits. omega (arith, fits) }

pub weighed_hands_on : (weights : List ℕ) → HandsOn (λ shuttle arrival. weighed_arrival (figure weights shuttle) arrival)
weighed_hands_on weights = record { later = λ shuttle a b le. omega (arith, mul-le-mul_right (min (figure weights shuttle) 1000) le); fits = λ shuttle a fits. omega (arith, fits) }
