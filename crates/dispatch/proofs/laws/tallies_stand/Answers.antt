use Rattle.dispatch.proofs.Standing.{all_stand}
use Rattle.dispatch.proofs.laws.tallies_stand.Goals as goal

pub returns-clause-stand : goal.returns-clause-stand
returns-clause-stand c = all_stand c.runs_stand.ensures c.redraws_stand.ensures
