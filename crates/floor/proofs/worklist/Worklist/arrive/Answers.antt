use Rattle.std.proofs.Common.{◌≡◌, ◌-◌, ◌<◌, sym, ap, ◌∙◌, arith}
use Rattle.std.proofs.lemmas.List.{length-set}
use Rattle.traffic.specs.Scene.{at}
use Rattle.floor.specs.Under.{scene_under, shuttles_under}
use Rattle.floor.specs.Worklists.{known_in, ticks_in}
use Rattle.floor.proofs.Arriving.{filled_more, home_more, ringed, tells}
use Rattle.floor.proofs.Entering.{known_most, known_there}
use Rattle.floor.proofs.Looking.{read_known, read_unknown}
use Rattle.floor.proofs.worklist.Worklist.arrive.Goals as goal
use Rattle.floor.proofs.worklist.Worklist.arrive.Goals.{After-stop_count-stop}

pub loop-shuttle-init : goal.loop-shuttle-init
loop-shuttle-init c = record {
  going = c.requires.going;
  cared = c.requires.cared;
  none = c.requires.none;
  room = c.told-arrivals;
  home = λ s lt. absurd (omega (arith, lt));
  last = λ s lt. absurd (omega (arith, lt));
}

-- the shuttle is one of the plan, and its stop the last
there : (c : After-stop_count-stop) → c.loop-shuttle.shuttle < shuttles_under c.args.scene.now
there c = omega (arith, c.loop-shuttle-test.true, c.count-shuttle-end.ensures.all)

pub known_tick-requires-clause-short : goal.known_tick-requires-clause-short
known_tick-requires-clause-short c =
    let u = c.args.scene.now in
    let w = c.loop-shuttle.self in
    let s = c.loop-shuttle.shuttle in
    omega (arith, known_most u c.count-shuttle-end.ensures.sound w c.loop-shuttle.invariant.going s (there c), known_there u w s (there c))

pub loop-shuttle-preserved : goal.loop-shuttle-preserved
loop-shuttle-preserved c =
    let u = c.args.scene.now in
    let w = c.loop-shuttle.self in
    let h = c.loop-shuttle.invariant in
    let s = c.loop-shuttle.shuttle in
    let lt = there (goal.at.loop-shuttle-preserved c).After-stop_count-stop in
    let a = at s (c.stop_count-stop.result - 1) in
    let last : (scene_under u).last s ≡ c.stop_count-stop.result - 1 = ap (λ n. n - 1) (sym c.stop_count-stop.ensures.all) in
    let read = read_known u w h.going a lt c.known_tick.result c.known_tick.ensures c.in-Some.arrival c.in-Some.is in
    record {
      going = h.going;
      cared = h.cared;
      none = h.none;
      room = length-set c.loop-shuttle.arrivals s c.in-Some.arrival ∙ h.room;
      home = home_more (λ r. (scene_under u).last r < known_in u w r) s h.home (omega (arith, read.0, last));
      last = filled_more (λ r. ticks_in u w r ((scene_under u).last r)) c.loop-shuttle.arrivals s c.in-Some.arrival (omega (arith, c.loop-shuttle-test.true, c.count-shuttle-end.ensures.few, h.room)) h.last (read.1 ∙ ap (ticks_in u w s) (sym last));
    }

pub returns-in_default-clause-ring : goal.returns-in_default-clause-ring
returns-in_default-clause-ring c =
    let u = c.args.scene.now in
    let w = c.loop-shuttle.self in
    let h = c.loop-shuttle.invariant in
    let s = c.loop-shuttle.shuttle in
    let lt = there (goal.at.returns-in_default-clause-ring c).After-stop_count-stop in
    let a = at s (c.stop_count-stop.result - 1) in
    let unknown = read_unknown u w h.going a lt c.known_tick.result c.known_tick.ensures c.in_default.is in
    ringed u w h.going c.sweeps_stand.ensures.ring h.none h.cared s (omega (arith, unknown, c.stop_count-stop.ensures.all))

pub returns-clause-ticks : goal.returns-clause-ticks
returns-clause-ticks c =
    let h = c.loop-shuttle.invariant in
    tells c.args.scene.now c.loop-shuttle.self h.going c.sweeps_stand.ensures.end c.loop-shuttle.arrivals
    (λ s lt. h.home s (omega (arith, lt, c.loop-shuttle-test.false, c.count-shuttle-end.ensures.all)))
    (λ s lt. h.last s (omega (arith, lt, c.loop-shuttle-test.false, c.count-shuttle-end.ensures.all)))
