use Rattle.std.proofs.Common.{◌≡◌, ◌<◌, List, length, get_or, sym, ap, ◌∙◌, subst, arith}
use Rattle.std.specs.List.{AllByRecursion}
use Rattle.std.specs.Option.{option_to_list}
use Rattle.std.proofs.ByRecursion.{All-get_or}
use Rattle.floor.specs.declared.index.Touch.{Touch}
use Rattle.floor.specs.Latest.{IsLatest}
use Rattle.floor.specs.Touches.{touched}
use Rattle.floor.specs.Under.{orders_under, shuttles_under, touches_under}
use Rattle.floor.specs.Worklists.{known_in, ticks_in}
use Rattle.floor.proofs.Entering.{known_most, known_there}
use Rattle.floor.proofs.Floors.{few, touches_are}
use Rattle.floor.proofs.Looking.{looked_more, looked_all, latest_none, latest_one, held_at, read_known, read_unknown}
use Rattle.floor.proofs.Touching.{no_touch}
use Rattle.floor.proofs.worklist.Worklist.look.Goals as goal
use Rattle.floor.proofs.worklist.Worklist.look.Goals.{Joined-awaited, In-Some, in-Some+in-Some-known_tick, in_default}

-- the stop that may be waited for is of a shuttle of the plan
one : (c : Joined-awaited) → (get_or c.at-touches.result.now c.loop-seen.seen no_touch).shuttle < shuttles_under c.args.scene.now
one c =
    let u = c.args.scene.now in
    let listed = c.at-touches.ensures ∙ c.requires.path.each c.args.at.stop c.requires.stop.1 in
    let within = subst (AllByRecursion (λ (t : Touch). t.shuttle < shuttles_under u)) (sym listed) (touches_are u.floor.now c.requires.sound c.args.at) in
    All-get_or (λ (t : Touch). t.shuttle < shuttles_under u) c.at-touches.result.now c.loop-seen.seen no_touch c.loop-seen-test.true within

there : (c : In-Some) → c.in-Some.awaited.shuttle < shuttles_under c.args.scene.now
there c =
    let u = c.args.scene.now in
    let listed = c.at-touches.ensures ∙ c.requires.path.each c.args.at.stop c.requires.stop.1 in
    let within = subst (AllByRecursion (λ (t : Touch). t.shuttle < shuttles_under u)) (sym listed) (touches_are u.floor.now c.requires.sound c.args.at) in
    omega (arith, All-get_or (λ (t : Touch). t.shuttle < shuttles_under u) c.at-touches.result.now c.loop-seen.seen no_touch c.loop-seen-test.true within, c.in-Some.ensures.shuttle)

pub known_tick-requires-clause-shuttle : goal.known_tick-requires-clause-shuttle
known_tick-requires-clause-shuttle c = omega (arith, there c, few c.args.scene.now.floor.now c.requires.sound)

pub known_tick-requires-clause-short : goal.known_tick-requires-clause-short
known_tick-requires-clause-short c =
    let u = c.args.scene.now in
    let w = c.args.self.now in
    let s = c.in-Some.awaited.shuttle in
    omega (arith, known_most u c.requires.sound w c.requires.going s (there c), known_there u w s (there c))

pub loop-seen-preserved : goal.loop-seen-preserved
loop-seen-preserved c =
    let u = c.args.scene.now in
    let w = c.args.self.now in
    let a = c.args.at in
    let i = c.loop-seen.seen in
    let o = c.awaited.result in
    let listed = c.at-touches.ensures ∙ c.requires.path.each a.stop c.requires.stop.1 in
    let lt : i < length (touches_under u a) = omega (arith, c.loop-seen-test.true, ap (λ (l : List Touch). length l) listed) in
    let is : option_to_list o ≡ touched (orders_under u) (get_or (touches_under u a) i no_touch) = c.awaited.ensures.stop ∙ ap (λ (l : List Touch). touched (orders_under u) (get_or l i no_touch)) listed in
    let m = c.loop-seen.latest in
    let n = c.match-awaited.latest in
    looked_more u w a i m n o lt c.loop-seen.invariant is
    (elim c.match-awaited.branch [
      | in-Some+in-Some-known_tick b ↦
          let t = b.in-Some-known_tick.tick in
          let read = read_known u w c.requires.going b.in-Some.awaited (omega (arith, one c, b.in-Some.ensures.shuttle)) b.known_tick.result b.known_tick.ensures t b.in-Some-known_tick.is in
          subst (λ k. IsLatest k m (known_in u w) (ticks_in u w) (option_to_list o)) (sym (b.latest-is ∙ b.max-latest.ensures)) (latest_one u w a m t o b.in-Some.awaited b.in-Some.is read.0 read.1)
      | in_default b ↦ subst (λ k. IsLatest k m (known_in u w) (ticks_in u w) (option_to_list o)) (sym b.latest-is) (latest_none u w a m o b.in_default.is)
    ])

pub returns-in_default-known_tick : goal.returns-in_default-known_tick
returns-in_default-known_tick c =
    let u = c.args.scene.now in
    let w = c.args.self.now in
    let a = c.args.at in
    let i = c.loop-seen.seen in
    let o = c.awaited.result in
    let b = c.in-Some.awaited in
    let listed = c.at-touches.ensures ∙ c.requires.path.each a.stop c.requires.stop.1 in
    let lt : i < length (touches_under u a) = omega (arith, c.loop-seen-test.true, ap (λ (l : List Touch). length l) listed) in
    let is : option_to_list o ≡ touched (orders_under u) (get_or (touches_under u a) i no_touch) = c.awaited.ensures.stop ∙ ap (λ (l : List Touch). touched (orders_under u) (get_or l i no_touch)) listed in
    let on = there (goal.at.returns-in_default-known_tick c).In-Some in
    (held_at u w a c.requires.sound i o b lt is c.in-Some.is on (read_unknown u w c.requires.going b on c.known_tick.result c.known_tick.ensures c.in_default-known_tick.is), c.loop-seen.invariant)

pub returns : goal.returns
returns c =
    let u = c.args.scene.now in
    let a = c.args.at in
    let listed = c.at-touches.ensures ∙ c.requires.path.each a.stop c.requires.stop.1 in
    looked_all u c.args.self.now a c.requires.sound c.loop-seen.seen c.loop-seen.latest (omega (arith, c.loop-seen-test.false, ap (λ (l : List Touch). length l) listed)) c.loop-seen.invariant
