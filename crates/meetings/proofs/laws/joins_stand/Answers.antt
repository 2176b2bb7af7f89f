use Rattle.meetings.proofs.Places.{joined_law}
use Rattle.meetings.proofs.laws.joins_stand.Goals as goal

pub returns : goal.returns
returns g c = joined_law
