use Rattle.std.proofs.Common.{◌+◌, ◌*◌, length, sym, ap, ◌∙◌, arith}
use Rattle.std.proofs.lemmas.List.{length-append}
use Rattle.orders.specs.File.{body_bytes, over}
use Rattle.orders.specs.Plans.{shuttles_of, waits_of}
use Rattle.meetings.specs.Joined.{joined}
use Rattle.orders.proofs.Buffers.{over_none, over_more}
use Rattle.orders.proofs.write.Orders.put_bodies.Goals as goal

pub loop-shuttle-init : goal.loop-shuttle-init
loop-shuttle-init c = (sym (over_none c.args.out.now (2 + 4 * shuttles_of c.args.self.now)), omega (arith, c.shuttles-shuttles.ensures.value))

pub put_body-at-requires : goal.put_body-at-requires
put_body-at-requires c =
    let f = body_bytes (waits_of c.args.self.now) in
    let room = c.joins_stand.ensures.rises f c.loop-shuttle.shuttle (shuttles_of c.args.self.now) (omega arith) in
    omega (arith, c.loop-shuttle.invariant.1, c.loop-shuttle.auto.out, c.requires)

pub loop-shuttle-preserved : goal.loop-shuttle-preserved
loop-shuttle-preserved c =
    let f = body_bytes (waits_of c.args.self.now) in
    let s = c.loop-shuttle.shuttle in
    let begin = 2 + 4 * shuttles_of c.args.self.now in
    let more = c.joins_stand.ensures.more f s in
    let room = c.joins_stand.ensures.rises f s (shuttles_of c.args.self.now) (omega arith) in (
      c.put_body-at.ensures.bytes ∙ ap (λ o. over o c.loop-shuttle.at (f s)) c.loop-shuttle.invariant.0 ∙ over_more c.args.out.now begin (joined f s) (f s) c.loop-shuttle.at c.loop-shuttle.invariant.1 (omega (arith, c.requires)) ∙ ap (over c.args.out.now begin) (sym more),
      omega (arith, c.put_body-at.ensures.next, c.loop-shuttle.invariant.1, ap length more, length-append (joined f s) (f s)),
    )
