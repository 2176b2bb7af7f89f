use Rattle.std.proofs.Common.{sym}
use Rattle.floor.proofs.Standing.{no_room}
use Rattle.floor.proofs.worklist.Worklist.tick.Goals as goal

pub returns-else-at-lt-MOST_SHUTTLES : goal.returns-else-at-lt-MOST_SHUTTLES
returns-else-at-lt-MOST_SHUTTLES c = sym (no_room c.args.self.now c.requires c.args.at c.else-at-lt-MOST_SHUTTLES.either)
