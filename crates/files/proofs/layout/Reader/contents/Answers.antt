use Rattle.std.proofs.Common.{◌<◌, vec_items, sum, ap, ◌∙◌, arith}
use Rattle.std.proofs.lemmas.List.Sums.{sum_by_push}
use Rattle.files.specs.Layout.{entry, next_entry}
use Rattle.files.specs.Views.{same}
use Rattle.files.proofs.Fields.{row_more, row_out}
use Rattle.files.proofs.layout.Reader.contents.Goals as goal

pub returns-in_err-count-clause-value : goal.returns-in_err-count-clause-value
returns-in_err-count-clause-value c =
    let lt : c.loop.counter < c.args.shuttles = omega arith in
    rw (← c.loop.invariant.4) (row_out (entry c.loop.self.bytes.now) next_entry same _ _ _ _ _ _ _ _ lt c.loop.invariant.0 c.from_residual.ensures.1 c.in_err-count.ensures.value)

pub loop-preserved : goal.loop-preserved
loop-preserved c =
    let lt : c.loop.counter < c.args.shuttles = omega arith in
    let read = row_more (entry c.loop.self.bytes.now) next_entry _ _ _ _ _ _ lt c.loop.invariant.0 c.in_ok-count.ensures.value in
    let items = c.in_ok-push.ensures.items in
    let file = c.in_ok-count.ensures.file in
    let next = c.in_ok-count.ensures.next in
    let total = ap sum items ∙ sum_by_push (λ x. x) (vec_items c.loop.counts) c.in_ok-count.count in
    let most = c.in_ok-count.ensures.range in
    (cc, omega arith, omega arith, omega arith, cc)
