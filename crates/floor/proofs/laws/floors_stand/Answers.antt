use Rattle.std.proofs.Common.{arith}
use Rattle.floor.proofs.Keeping.{holds_keep_placed, words_name_movers}
use Rattle.floor.proofs.Scenes.{tick-scene, hold_scene, fresh-scene, placed_tick, placed_fresh}
use Rattle.floor.proofs.Words.{bit_past}
use Rattle.floor.proofs.laws.floors_stand.Goals as goal

pub returns : goal.returns
returns c =
    let moves = c.steps_stand.ensures.moves in
    record {
      ticks = tick-scene moves;
      holds = hold_scene;
      fresh = fresh-scene;
      placed_ticks = placed_tick moves;
      placed_holds = holds_keep_placed;
      placed_fresh = placed_fresh;
      word = words_name_movers moves;
      nobody = λ s. bit_past 0 0 s (omega arith) (omega arith);
    }
