use Rattle.std.proofs.Common.{arith}
use Rattle.floor.proofs.Floors.{few}
use Rattle.floor.proofs.scene.Scene.moves.Goals as goal

pub names-requires : goal.names-requires
names-requires c = omega (arith, c.requires, few c.args.self.now.floor.now c.state-one.ensures.sound)
