use Rattle.std.proofs.Common.{◌≡◌, length, subst, arith}
use Rattle.std.proofs.lemmas.Grind.{common_steps}
use Rattle.files.specs.Rules.{path_at}
use Rattle.floor.specs.Positions.{IsSound, paths_in}
use Rattle.floor.proofs.Floors.{some, long}
use Rattle.floor.proofs.floor.Floor.stop_count.Goals as goal

pub returns-clause-some : goal.returns-clause-some
returns-clause-some c =
    let all : c.len.result ≡ length (path_at (paths_in c.args.self.now) c.args.shuttle) = grind (arith, common_steps) in
    omega (arith, some c.args.self.now (subst IsSound c.self.view_is c.self.invariant.sound) c.args.shuttle c.requires)

pub returns-clause-few : goal.returns-clause-few
returns-clause-few c =
    let all : c.len.result ≡ length (path_at (paths_in c.args.self.now) c.args.shuttle) = grind (arith, common_steps) in
    omega (arith, long c.args.self.now (subst IsSound c.self.view_is c.self.invariant.sound) c.args.shuttle c.requires)
