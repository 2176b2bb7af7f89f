use Rattle.std.proofs.Common.{refl}
use Rattle.worked.proofs.Computed.{worked_plans}
use Rattle.worked.proofs.worked_plans_stand.Goals as goal

pub returns : goal.returns
returns c = record {
  plans = worked_plans c.rows_stand.ensures.unique c.meetings_stand.ensures.clear;
  sum = λ sum. record { starts = refl; goes_on = refl };
  last = λ last. record { starts = refl; goes_on = refl };
}
