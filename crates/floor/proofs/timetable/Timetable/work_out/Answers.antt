use Rattle.std.proofs.Common.{take, sym, subst}
use Rattle.std.proofs.lemmas.Result.{on_ok_weaker, on_err_weaker}
use Rattle.floor.specs.declared.scene.Scene.{Scene}
use Rattle.floor.specs.Times.{IsTimetable}
use Rattle.floor.specs.Under.{scene_under, shuttles_under}
use Rattle.floor.specs.Worklists.{rows_of}
use Rattle.floor.proofs.Telling.{none_found, is_timetable}
use Rattle.floor.proofs.timetable.Timetable.work_out.Goals as goal

pub returns-clause-ticks : goal.returns-clause-ticks
returns-clause-ticks c =
    let u : Scene = record { floor = c.args.floor; orders = c.args.orders } in
    let made = is_timetable u c.count-self-inside.ensures.sound c.plans_stand.ensures.within c.rounds_stand.ensures.found c.arrive.new.self c.arrive.new.arrivals c.arrive.ensures.room in
    on_ok_weaker c.arrive.result (λ t. subst (λ n. IsTimetable (scene_under u) (shuttles_under u) (record { rows = rows_of c.arrive.new.self; arrivals = take n c.arrive.new.arrivals })) (sym c.count-self-inside.ensures.all) (made t)) c.arrive.ensures.ticks

pub returns-clause-ring : goal.returns-clause-ring
returns-clause-ring c =
    let u : Scene = record { floor = c.args.floor; orders = c.args.orders } in
    on_err_weaker c.arrive.result (none_found u c.count-self-inside.ensures.sound c.plans_stand.ensures.within c.rounds_stand.ensures.timed) c.arrive.ensures.ring
