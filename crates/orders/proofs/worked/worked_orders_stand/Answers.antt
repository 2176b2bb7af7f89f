use Rattle.std.proofs.Common.{[], ◌∷◌, refl, ap}
use Rattle.orders.specs.Waits.{wait_under}
use Rattle.orders.specs.Worked.{OwnWaits}
use Rattle.orders.proofs.worked.worked_orders_stand.Goals as goal

own-waits : OwnWaits
own-waits [] = refl
own-waits (m ∷ ms) = ap (λ ws. wait_under m m.first ∷ ws) (own-waits ms)

pub returns : goal.returns
returns c = record { bytes = refl; own = own-waits }
