use Rattle.costs.proofs.Totals.{total_later}
use Rattle.costs.proofs.cost.totals_stand.Goals as goal

pub returns : goal.returns
returns c = total_later
