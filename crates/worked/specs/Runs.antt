-- Runs of the worked plans, and what is asked of them.
use Rattle.std.specs.Prelude.{ℕ, List, [], ◌∷◌, Option}
use Rattle.meetings.specs.declared.meet.First.{First}
use Rattle.orders.specs.Plans.{plan_orders}
use Rattle.plans.specs.declared.plan.Plan.{Plan}
use Rattle.redraw.specs.Costs.{cost_of}
use Rattle.traffic.specs.Plans.{named}
use Rattle.traffic.specs.Scene.{Numbers}
use Rattle.traffic.specs.Ticks.{entry_ticks}
use Rattle.run.specs.Executions.{arrivals_now}
use Rattle.run.specs.Opens.{open_meetings}
use Rattle.run.specs.State.{count_on, scene_under}
use Rattle.dispatch.specs.Costing.{Costing}
use Rattle.dispatch.specs.Tally.{Tally, Hold, Tick, Draft, Adopt, after, tally}
use Rattle.worked.specs.Costs.{by_sum}
use Rattle.worked.specs.Plans.{p_plan, p_plan_with_table, q_plan}

-- a run of number 1 just after it is opened, and after a hold of 5 ticks for shuttle 0
abbrev pub opened : Plan → Tally
opened plan = tally plan 1 []

abbrev pub held : Tally → Tally
held t = after (Hold 0 5) t

-- P fresh, and held
abbrev pub p : Tally
p = opened p_plan

abbrev pub p_held : Tally
p_held = held p

-- held with a draft by a heap in hand, and with that in force
abbrev pub p_drafted : Tally
p_drafted = after (Draft by_sum 8 100 (0 ∷ 0 ∷ 1 ∷ [])) p_held

abbrev pub p_adopted : Tally
p_adopted = after (Adopt 1 1) p_drafted

-- held after one undisturbed tick, and held where place 5 is a table
abbrev pub p_moved : Tally
p_moved = held (after (Tick 0) p)

abbrev pub p_at_table : Tally
p_at_table = held (opened p_plan_with_table)

-- Q held, with a draft by a heap in hand, and with that in force
abbrev pub q_held : Tally
q_held = held (opened q_plan)

abbrev pub q_drafted : Tally
q_drafted = after (Draft by_sum 8 100 (0 ∷ 0 ∷ 1 ∷ 1 ∷ 2 ∷ 0 ∷ 1 ∷ [])) q_held

abbrev pub q_adopted : Tally
q_adopted = after (Adopt 1 1) q_drafted

-- the orders in force, the arrivals under them, what they cost, and their order file
abbrev pub in_force : Tally → List First
in_force t = t.state.firsts

abbrev pub arrivals : Tally → List ℕ
arrivals t = arrivals_now t.state

abbrev pub cost_in_force : Costing → Tally → Option ℕ
cost_in_force cost t = cost_of cost.start cost.next t.state (in_force t)

abbrev pub order_file : Tally → List ℕ
order_file t = plan_orders t.state.plan (in_force t)

-- the open meetings
abbrev pub opens : Tally → List ℕ
opens t = open_meetings t.state

-- the entry ticks under other orders; none where these close a ring
abbrev pub ticks_under : Tally → List First → Option Numbers
ticks_under t orders = entry_ticks (scene_under t.state (named orders)) (count_on t.state)
