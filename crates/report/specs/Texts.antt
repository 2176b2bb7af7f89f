-- The lines that the register prints.
use Rattle.std.specs.Prelude.{ℕ, suc, List, [], ◌∷◌, ◌++◌, length, Some, None, Ok, Err, codes, decimal, sum_by, Option, Result}
use Rattle.std.specs.List.{flat_map}
use Rattle.files.specs.declared.plan.Stop.{Stop}
use Rattle.orders.specs.declared.waits.Wait.{Wait}
use Rattle.orders.specs.Waits.{own_waits}
use Rattle.plans.specs.declared.plan.Plan.{Plan}
use Rattle.plans.specs.declared.plan.opening.PlanFault.{PlanFault}
use Rattle.plans.specs.Refusals.{NumberAndValues, plan_refusal}

abbrev pub end_line : List ℕ
end_line = 10 ∷ []

-- a number with a space before it
abbrev pub spaced : ℕ → List ℕ
spaced n = codes " " ++ decimal n

abbrev pub stop_text : Stop → List ℕ
stop_text s = codes " place " ++ decimal s.place ++ codes " (tick " ++ decimal s.tick ++ codes ")"

abbrev pub path_text : ℕ → List Stop → List ℕ
path_text shuttle path = codes "shuttle " ++ decimal shuttle ++ codes ":" ++ flat_map stop_text path ++ end_line

-- the paths, from a shuttle on
abbrev pub path_texts : ℕ → List (List Stop) → List ℕ
path_texts shuttle [] = []
path_texts shuttle (path ∷ paths) = path_text shuttle path ++ path_texts (suc shuttle) paths

-- the numbers of shuttles, stops, tables and meetings
abbrev pub counts_text : Plan → List ℕ
counts_text p =
    codes "plan" ++ spaced (length p.paths) ++ spaced (sum_by length p.paths) ++ spaced (length p.tables)
    ++ spaced (length p.meetings) ++ end_line

-- which stop of which shuttle waits for which stop of which other shuttle
abbrev pub wait_text : Wait → List ℕ
wait_text w =
    codes "stop " ++ decimal w.second.stop ++ codes " of shuttle " ++ decimal w.second.shuttle ++ codes " waits for stop "
    ++ decimal w.awaited.stop ++ codes " of shuttle " ++ decimal w.awaited.shuttle ++ end_line

abbrev pub wait_texts : List Wait → List ℕ
wait_texts ws = flat_map wait_text ws

-- the plan: its counts, its paths, and the waits of its own orders
abbrev pub text_of_plan : Plan → List ℕ
text_of_plan p = counts_text p ++ path_texts 0 p.paths ++ wait_texts (own_waits p.meetings)

-- what writing the order file involved
abbrev pub orders_text : ℕ → ℕ → List ℕ
orders_text meetings bytes = codes "orders.bin: " ++ decimal meetings ++ codes " meetings, " ++ decimal bytes ++ codes " bytes" ++ end_line

-- a refusal with its number and its values, or want of memory, which has none
abbrev pub refusal_text : Option NumberAndValues → List ℕ
refusal_text (Some n) = codes "no" ++ spaced n.number ++ flat_map spaced n.values ++ end_line
refusal_text None = codes "no memory" ++ end_line

abbrev pub text_of_answer : Result Plan PlanFault → List ℕ
text_of_answer (Ok p) = text_of_plan p
text_of_answer (Err e) = refusal_text (plan_refusal e)
