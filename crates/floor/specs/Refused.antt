-- The refusal that a fault of a floor's call becomes.
use Rattle.floor.specs.declared.floor.calls.FloorFault.{FloorFault}
use Rattle.floor.specs.declared.floor.calls.FloorFault.TheVariants as floor
use Rattle.refusals.specs.declared.Refusal.{Refusal}
use Rattle.refusals.specs.declared.Refusal.TheVariants as refusal

abbrev pub from_floor : FloorFault → Refusal
from_floor floor.NoShuttle = refusal.NoShuttle
from_floor floor.AtLastStop = refusal.AtLastStop
from_floor floor.LongHold = refusal.LongHold
