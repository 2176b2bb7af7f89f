-- Entry ticks of two plans compute.
use Rattle.std.proofs.Common.{refl}
use Rattle.traffic.specs.Ticks.{entry_ticks}
use Rattle.traffic.specs.Worked.{WorkedOut}

pub worked_out : WorkedOut
unfolding entry_ticks
worked_out = record { in_order = refl; turned = refl; two_in_order = refl; both_turned = refl; nowhere = refl; ring = refl }
