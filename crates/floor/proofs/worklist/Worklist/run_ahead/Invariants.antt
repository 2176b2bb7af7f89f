use Rattle.std.proofs.Common.{◌≡◌, ℕ, suc, ◌<◌, ◌≤◌}
use Rattle.floor.specs.Under.{scene_under, shuttles_under}
use Rattle.floor.specs.Worklists.{Cared, Going, Looked, known_in, next_in, work}
use Rattle.floor.proofs.worklist.Worklist.run_ahead.Given as goal

abbrev pub invariant-loop-at : goal.invariant-loop-at
invariant-loop-at l = record {
  going : Going l.scene l.self;
  others : (s : ℕ) → s < shuttles_under l.scene → (s ≡ l.shuttle → ⊥) → Cared l.scene l.self s;
  same : l.entered.shuttle ≡ l.shuttle;
  known : known_in l.scene l.self l.shuttle ≡ suc l.entered.stop;
  looked : known_in l.scene l.self l.shuttle ≤ (scene_under l.scene).last l.shuttle → Looked l.scene l.self (next_in l.scene l.self l.shuttle) l.seen l.latest;
  less : work l.scene l.self ≤ work l.scene l.initial.self;
}

abbrev pub decreases-loop-at : goal.decreases-loop-at
decreases-loop-at l = work l.scene l.self
