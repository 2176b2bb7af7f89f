-- What passing orders cost, and when they cost least.
use Rattle.std.specs.Prelude.{◌≡◌, ℕ, ◌≤◌, List, Some, Option}
use Rattle.std.specs.Option.{option_map}
use Rattle.meetings.specs.declared.meet.First.{First}
use Rattle.traffic.specs.Plans.{named}
use Rattle.traffic.specs.Scene.{Scene, Numbers}
use Rattle.traffic.specs.Ticks.{entry_ticks}
use Rattle.costs.specs.Totals.{total}
use Rattle.floor.specs.Times.{arrivals_by}
use Rattle.run.specs.Lawful.{LawfulFor}
use Rattle.run.specs.State.{State, count_on, scene_under}

module _ (start : ℕ) (next : ℕ → ℕ → ℕ → ℕ) (st : State) where
  -- the total of the arrivals of all shuttles in number order, by entry ticks
  abbrev pub total_by : Scene → Numbers → ℕ
  total_by c e = total start next (arrivals_by c (count_on st) e)

  -- What passing orders cost: that total with them in force; orders that close a ring have no cost.
  unfoldable pub cost_of : List First → Option ℕ
  cost_of orders =
      let c = scene_under st (named orders) in
      option_map (total_by c) (entry_ticks c (count_on st))

  -- Lawful passing orders that cost so much, and no lawful orders cost less.
  pub record IsBest (orders : List First) (cost : ℕ) : Type 0 where
    pub lawful : LawfulFor st orders
    pub costs : cost_of orders ≡ Some cost
    pub least :
        (others : List First) (more : ℕ)
        → LawfulFor st others → cost_of others ≡ Some more → cost ≤ more
