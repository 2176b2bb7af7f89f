use Rattle.std.proofs.Common.{◌≡◌, ℕ, ◌<◌, length, get_or}
use Rattle.floor.specs.Under.{scene_under, shuttles_under}
use Rattle.floor.specs.Worklists.{Cared, Going, known_in, ticks_in}
use Rattle.floor.proofs.worklist.Worklist.arrive.Given as goal

abbrev pub invariant-loop-shuttle : goal.invariant-loop-shuttle
invariant-loop-shuttle l = record {
  going : Going l.scene l.self;
  cared : (s : ℕ) → s < shuttles_under l.scene → Cared l.scene l.self s;
  none : l.self.ready ≡ 0;
  room : length l.arrivals ≡ 32;
  home : (s : ℕ) → s < l.shuttle → (scene_under l.scene).last s < known_in l.scene l.self s;
  last : (s : ℕ) → s < l.shuttle → get_or l.arrivals s 0 ≡ ticks_in l.scene l.self s ((scene_under l.scene).last s);
}
