use Rattle.std.proofs.Common.{ℕ, ◌<◌}
use Rattle.floor.specs.Under.{shuttles_under}
use Rattle.floor.specs.Worklists.{Going, Cared, work}
use Rattle.floor.proofs.worklist.Worklist.run.Given as goal

abbrev pub invariant-loop-self : goal.invariant-loop-self
invariant-loop-self l = record {
  going : Going l.scene l.self;
  cared : (s : ℕ) → s < shuttles_under l.scene → Cared l.scene l.self s;
}

abbrev pub decreases-loop-self : goal.decreases-loop-self
decreases-loop-self l = work l.scene l.self
