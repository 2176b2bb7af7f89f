use Rattle.std.proofs.Common.{subst}
use Rattle.floor.specs.Floors.{IsFloor}
use Rattle.floor.specs.Positions.{meetings_in, paths_in}
use Rattle.floor.proofs.Walking.{path_there, path_order, path_end, is_path}
use Rattle.floor.proofs.floor.Floor.path.Goals as goal
use Rattle.floor.proofs.floor.Floor.path.Goals.{After-self}

is_floor : (c : After-self) → IsFloor c.args.self.now c.self.inside.index
is_floor c = subst (λ p. IsFloor p c.self.inside.index) c.self.view_is c.self.invariant

pub path-requires-clause-shuttle : goal.path-requires-clause-shuttle
path-requires-clause-shuttle c = let p = c.args.self.now in path_there (paths_in p) (meetings_in p) c.self.inside.index (is_floor c).index c.args.shuttle c.requires

pub path-requires-clause-order : goal.path-requires-clause-order
path-requires-clause-order c = let p = c.args.self.now in path_order (paths_in p) (meetings_in p) c.self.inside.index (is_floor c).index c.args.shuttle c.requires

pub path-requires-clause-end : goal.path-requires-clause-end
path-requires-clause-end c = let p = c.args.self.now in path_end (paths_in p) (meetings_in p) c.self.inside.index (is_floor c).index c.args.shuttle c.requires

pub returns-clause-path : goal.returns-clause-path
returns-clause-path c =
    let p = c.args.self.now in
    is_path (paths_in p) (meetings_in p) c.self.inside.index (is_floor (goal.at.returns-clause-path c).After-self).index c.args.shuttle c.requires c.path.result c.path.ensures.begins c.path.ensures.touches
