use Rattle.heap.proofs.Firsts.{first_least}
use Rattle.heap.proofs.heaps_stand.Goals as goal

pub returns : goal.returns
returns g c = record { least = first_least }
