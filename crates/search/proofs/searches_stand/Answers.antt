use Rattle.search.proofs.Optimal.{finds_least, finds_one_cost}
use Rattle.search.proofs.Weights.{finds_with_room}
use Rattle.search.proofs.searches_stand.Goals as goal

pub returns : goal.returns
returns c = record { least = finds_least; same = finds_one_cost; finds = finds_with_room }
