-- Reading an order file gives back the orders that it was written of, and takes nothing else.
use Rattle.std.specs.Prelude.{◌≡◌, ℕ, List, length, Ok, Err, vec_items, Result, Vec}
use Rattle.std.specs.declared.alloc.Global.{Global}
use Rattle.meetings.specs.declared.meet.First.{First}
use Rattle.plans.specs.declared.plan.Plan.{Plan}
use Rattle.orders.specs.declared.read.ReadFault.{ReadFault}
use Rattle.orders.specs.declared.read.ReadFault.TheVariants.{NotOrders, Memory}
use Rattle.orders.specs.Plans.{plan_orders}

-- the bytes are the file of these orders, one for each meeting of the plan
abbrev pub FileOf : Plan → List First → List ℕ → Type 0
FileOf p fs bs = (length fs ≡ length p.meetings) × (bs ≡ plan_orders p fs)

-- The answer is the only orders whose file the bytes are; or they are the file of none. Want of memory says nothing of the bytes.
abbrev pub ReadsOrders : Result (Vec First Global) ReadFault → Plan → List ℕ → Type 0
ReadsOrders (Ok v) p bs = FileOf p (vec_items v) bs × ((fs : List First) → FileOf p fs bs → vec_items v ≡ fs)
ReadsOrders (Err NotOrders) p bs = (fs : List First) → FileOf p fs bs → ⊥
ReadsOrders (Err Memory) p bs = Unit {0}
