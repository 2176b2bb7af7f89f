use Rattle.std.proofs.Common.{◌<◌, arith}
use Rattle.files.specs.Layout.{table, next_table}
use Rattle.files.specs.Views.{same}
use Rattle.files.proofs.Fields.{row_more, row_out}
use Rattle.files.proofs.layout.Reader.tables.Goals as goal

pub returns-in_err-place-clause-value : goal.returns-in_err-place-clause-value
returns-in_err-place-clause-value c =
    let lt : c.loop.counter < c.args.places = omega arith in
    rw (← c.loop.invariant.2) (row_out (table c.loop.self.bytes.now) next_table same _ _ _ _ _ _ _ _ lt c.loop.invariant.0 c.from_residual.ensures.1 c.in_err-place.ensures.value)

pub loop-preserved : goal.loop-preserved
loop-preserved c =
    let lt : c.loop.counter < c.args.places = omega arith in
    let read = row_more (table c.loop.self.bytes.now) next_table _ _ _ _ _ _ lt c.loop.invariant.0 c.in_ok-place.ensures.value in
    let items = c.in_ok-push.ensures.items in
    let file = c.in_ok-place.ensures.file in
    let next = c.in_ok-place.ensures.next in
    (cc, omega arith, cc)
