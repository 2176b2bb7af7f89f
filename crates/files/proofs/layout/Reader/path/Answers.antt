use Rattle.std.proofs.Common.{◌<◌, length, vec_items, ap, ◌∙◌, arith}
use Rattle.std.proofs.lemmas.List.{length_push}
use Rattle.files.specs.Layout.{stop, next_stop}
use Rattle.files.proofs.Fields.{row_more}
use Rattle.files.proofs.layout.Reader.path.Goals as goal

pub loop-preserved : goal.loop-preserved
loop-preserved c =
    let lt : c.loop.counter < c.args.count = omega arith in
    let read = row_more (stop c.loop.self.bytes.now) next_stop _ _ _ _ _ _ lt c.loop.invariant.0 c.in_ok-stop.ensures.value in
    let items = c.in_ok-push.ensures.items in
    let file = c.in_ok-stop.ensures.file in
    let next = c.in_ok-stop.ensures.next in
    let long = ap length items ∙ length_push (vec_items c.loop.stops) _ in
    (cc, omega arith, omega arith, cc)
