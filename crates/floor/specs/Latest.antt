-- The latest tick that a stop comes after.
use Rattle.std.specs.Prelude.{◌≡◌, ℕ, max, List, map}
use Rattle.meetings.specs.declared.stays.At.{At}
use Rattle.traffic.specs.Scene.{Numbers, number, greatest}
use Rattle.traffic.specs.Sweep.{Ready}

-- the latest of a tick and the entry ticks of stops, all of which are known
pub record IsLatest (latest tick : ℕ) (known : ℕ → ℕ) (e : Numbers) (l : List At) : Type 0 where
  pub all : Ready known l
  pub is : latest ≡ max tick (greatest (map (number e) l))
