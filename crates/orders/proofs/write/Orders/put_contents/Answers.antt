use Rattle.std.proofs.Common.{◌≡◌, ◌+◌, ◌++◌, sym, ap, ◌∙◌, append_assoc, arith}
use Rattle.std.proofs.lemmas.List.{length-append}
use Rattle.files.specs.Bytes.{word_bytes}
use Rattle.orders.specs.File.{entry_bytes, over}
use Rattle.orders.specs.Plans.{shuttles_of, waits_of}
use Rattle.meetings.specs.Joined.{joined}
use Rattle.orders.proofs.Lengths.{length-entries, body_at-more}
use Rattle.orders.proofs.Buffers.{over_more}
use Rattle.orders.proofs.write.Orders.put_contents.Goals as goal

pub loop-shuttle-preserved : goal.loop-shuttle-preserved
loop-shuttle-preserved c =
    let n = shuttles_of c.args.self.now in
    let ws = waits_of c.args.self.now in
    let f = entry_bytes n ws in
    let s = c.loop-shuttle.shuttle in
    let at = c.loop-shuttle.at in
    let old = c.args.out.now in
    let done = joined f s in
    let a = word_bytes c.loop-shuttle.begin in
    let b = word_bytes c.count-count.result in
    let long = length-entries c.joins_stand.ensures n ws s in
    let first = over_more old 2 done a at (omega (arith, c.loop-shuttle.invariant.1)) (omega (arith, c.requires)) in
    let second = over_more old 2 (done ++ a) b (at + 2) (omega (arith, c.loop-shuttle.invariant.1, length-append done a)) (omega (arith, c.requires, length-append done a)) in
    let here : a ++ b ≡ f s = (λ i. word_bytes (c.loop-shuttle.invariant.2 i) ++ word_bytes (c.count-count.ensures.count i)) in (
      c.put_word-in-loop-shuttle.ensures
          ∙ ap (λ o. over o (at + 2) b) (c.put_word.ensures ∙ ap (λ o. over o at a) c.loop-shuttle.invariant.0 ∙ first)
          ∙ second
          ∙ ap (over old 2) (append_assoc done a b ∙ ap (λ l. done ++ l) here ∙ sym (c.joins_stand.ensures.more f s)),
      omega (arith, c.loop-shuttle.invariant.1),
      omega (arith, c.loop-shuttle.invariant.2, c.count-count.ensures.count, body_at-more c.joins_stand.ensures n ws s),
      omega (arith, c.loop-shuttle.invariant.3, c.count-count.ensures.few),
    )
