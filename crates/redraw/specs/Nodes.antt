-- What is found at a node of the search.
use Rattle.std.specs.Prelude.{ℕ, Bool, not, ◌&&◌, nat_lt, length, Some, None, Option, unwrap_or}
use Rattle.std.specs.List.{enumerate_from, position}
use Rattle.orders.specs.Waits.{wait_under}
use Rattle.traffic.specs.Index.{meeting_at}
use Rattle.traffic.specs.Scene.{Scene, at, Numbers, number}
use Rattle.traffic.specs.Ticks.{entry_ticks}
use Rattle.floor.specs.Times.{Times, tick_of}
use Rattle.floor.specs.Words.{bit}
use Rattle.search.specs.Questions.{Question}
use Rattle.search.specs.declared.finding.Finding.{Finding}
use Rattle.search.specs.declared.finding.Finding.TheVariants.{Ring, Done, Branch}
use Rattle.run.specs.Lawful.{first_at}
use Rattle.run.specs.Opens.{open_meetings}
use Rattle.run.specs.State.{State, count_on, meetings_on, scene_under}
use Rattle.redraw.specs.Costs.{cost_of, total_by}
use Rattle.redraw.specs.Orders.{orders_of}

-- the numbers that a timetable has for stops
abbrev pub numbers_of : Times → Numbers
numbers_of t s i = tick_of t (at s i)

-- whether the first in force leaves a meeting before the second enters: whether its following stop
-- is entered earlier than the second's
abbrev pub leaves_before : State → Numbers → ℕ → Bool
leaves_before st e j =
    let w = wait_under (meeting_at (meetings_on st) j) (first_at st.firsts j) in
    nat_lt (number e w.awaited) (number e w.second)

-- whether a meeting, given with its bit, is undecided, and the first in force does not leave it
-- before the second enters
abbrev pub violates : State → ℕ → Numbers → ℕ × ℕ → Bool
violates st decided e p = not (bit decided p.0) && not (leaves_before st e p.1)

-- the bit of the lowest such open meeting
abbrev pub lowest : State → ℕ → Numbers → Option ℕ
lowest st decided e = position (violates st decided e) (enumerate_from 0 (open_meetings st))

-- done, where there is none
abbrev pub found_by : ℕ → Option ℕ → Finding
found_by cost None = Done cost
found_by cost (Some next) = Branch cost next

module _ (start : ℕ) (next : ℕ → ℕ → ℕ → ℕ) (st : State) where
  -- by the entry ticks, if there are any
  abbrev pub found_at : Scene → ℕ → Option Numbers → Finding
  found_at c decided None = Ring
  found_at c decided (Some e) = found_by (total_by start next st c e) (lowest st decided e)

  -- with the undecided open meetings left out
  unfoldable pub finding : (decided turned : ℕ) → Finding
  finding decided turned =
      let c = scene_under st (orders_of st decided turned) in
      found_at c decided (entry_ticks c (count_on st))

  -- what is asked of the search: the open meetings, and the cost in force
  abbrev pub question : Question
  question = record {
    count = length (open_meetings st);
    start = unwrap_or (cost_of start next st st.firsts) 0;
    finding = finding;
  }
