use Rattle.std.proofs.Common.{get_or, arith}
use Rattle.std.proofs.lemmas.Option.{slice_get-get_or}
use Rattle.dispatch.proofs.Emptying.{slip_taken}
use Rattle.dispatch.proofs.calls.take_slip.Goals as goal

pub returns : goal.returns
returns c =
    let ps = c.args.pockets.now in
    let p = c.args.pocket in
    let there = c.index-pockets-pocket.result in
    rw (c.take.ensures.after, c.take.ensures.value) (slip_taken ps p (get_or ps p there) (slice_get-get_or ps p there (omega (arith, c.if-pocket-pockets.false))))
