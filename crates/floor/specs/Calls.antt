-- The calls on a floor: when they are refused, and what they do.
use Rattle.std.specs.Prelude.{ℕ, suc, ◌^◌, cond, List, length, Some, None, Ok, Err, Option, Result, nat_le, nat_lt, slice_set}
use Rattle.files.specs.declared.plan.Stop.{Stop}
use Rattle.files.specs.Rules.{path_at}
use Rattle.floor.specs.declared.floor.calls.FloorFault.{FloorFault}
use Rattle.floor.specs.declared.floor.calls.FloorFault.TheVariants.{NoShuttle, AtLastStop, LongHold}
use Rattle.floor.specs.declared.floor.calls.TheConstants.{LONGEST_HOLD}
use Rattle.floor.specs.declared.table.Shuttle.{Shuttle}
use Rattle.floor.specs.Shuttles.{shuttle_at, stop_in, holding}

-- the answer of a call, by why it is refused
abbrev pub judged : {F X : Type 0} → Option F → X → Result X F
judged None x = Ok x
judged (Some f) x = Err f

-- what is there after a call: a refused one changes nothing
abbrev pub unless : {F X : Type 0} → Option F → X → X → X
unless None after before = after
unless (Some f) after before = before

-- a hold for a shuttle that is not in the plan, then one at a last stop, then one over the longest hold
abbrev pub fault_of_hold : List (List Stop) → List Shuttle → ℕ → ℕ → Option FloorFault
fault_of_hold ps xs s ticks =
    cond (nat_lt s (length ps))
    (cond (nat_lt (suc (stop_in xs s)) (length (path_at ps s)))
    (cond (nat_le ticks LONGEST_HOLD) None (Some LongHold))
    (Some AtLastStop))
    (Some NoShuttle)

-- the records with one hold replaced
abbrev pub after_hold : List Shuttle → ℕ → ℕ → List Shuttle
after_hold xs s ticks = slice_set xs s (holding ticks (shuttle_at xs s))

-- a standing word that names a shuttle that is not in the plan
abbrev pub tick_fault : List (List Stop) → ℕ → Option FloorFault
tick_fault ps standing = cond (nat_lt standing (2 ^ length ps)) None (Some NoShuttle)
