use Rattle.std.proofs.Common.{arith}
use Rattle.floor.specs.Under.{shuttles_under}
use Rattle.floor.proofs.Beginning.{Begun, begun_more, going_start, cared_start}
use Rattle.floor.proofs.worklist.Worklist.begin.Goals as goal
use Rattle.floor.proofs.worklist.Worklist.begin.Goals.{After-self-1}

pub loop-shuttle-preserved : goal.loop-shuttle-preserved
loop-shuttle-preserved c =
    begun_more c.args.scene.now.floor.now.shuttles c.loop-shuttle.shuttle c.loop-shuttle.self c.stand.new.self c.state.result c.state.ensures.record (omega (arith, c.loop-shuttle-test.true, c.count-shuttle-end.ensures.few)) c.loop-shuttle.invariant c.stand.ensures

-- all shuttles of the plan
all : (c : After-self-1) → Begun c.args.scene.now.floor.now.shuttles (shuttles_under c.args.scene.now) (record { entries = c.loop-shuttle.self.entries; progress = c.loop-shuttle.self.progress; ready = c.everyone-self.result })
all c = record {
  shaped = record { rows = c.loop-shuttle.invariant.shaped.rows; wide = c.loop-shuttle.invariant.shaped.wide; progress = c.loop-shuttle.invariant.shaped.progress };
  progress = λ s lt. c.loop-shuttle.invariant.progress s (omega (arith, lt, c.loop-shuttle-test.false, c.count-shuttle-end.ensures.all));
  entered = λ s i lt. c.loop-shuttle.invariant.entered s i (omega (arith, lt, c.loop-shuttle-test.false, c.count-shuttle-end.ensures.all));
}

pub returns-clause-going : goal.returns-clause-going
returns-clause-going c = going_start c.args.scene.now c.count-shuttle-end.ensures.sound _ (all c) c.sweeps_stand.ensures.start

pub returns-clause-cared : goal.returns-clause-cared
returns-clause-cared c = cared_start c.args.scene.now c.count-shuttle-end.ensures.sound _ (all c) c.everyone-self.ensures
