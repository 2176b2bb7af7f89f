-- The order file of a run.
use Rattle.std.specs.Prelude.{◌≡◌, ℕ, ◌<◌, List, ◌++◌, length, drop, Some, None, Ok, Err, Option, Result}
use Rattle.orders.specs.Plans.{plan_orders}
use Rattle.refusals.specs.declared.Refusal.{Refusal}
use Rattle.refusals.specs.declared.Refusal.TheVariants.{NoPlan, ShortBuffer}
use Rattle.run.specs.State.{State}

-- Bytes are written into the front of a buffer, and what is behind them stays; or the buffer is too short, and stays as it was.
pub record Fits (bytes : List ℕ) (n : ℕ) (old new : List ℕ) : Type 0 where
  pub count : n ≡ length bytes
  pub buffer : new ≡ bytes ++ drop n old

pub record TooShort (bytes : List ℕ) (why : Refusal) (old new : List ℕ) : Type 0 where
  pub refusal : why ≡ ShortBuffer
  pub short : length old < length bytes
  pub buffer : new ≡ old

abbrev pub Puts : Result ℕ Refusal → List ℕ → List ℕ → List ℕ → Type 0
Puts (Ok n) bytes old new = Fits bytes n old new
Puts (Err why) bytes old new = TooShort bytes why old new

-- the order file of the orders in force; without a plan nothing is written
abbrev pub OrdersWritten : Option State → Result ℕ Refusal → List ℕ → List ℕ → Type 0
OrdersWritten None r old new = (r ≡ Err NoPlan) × (new ≡ old)
OrdersWritten (Some st) r old new = Puts r (plan_orders st.plan st.firsts) old new
