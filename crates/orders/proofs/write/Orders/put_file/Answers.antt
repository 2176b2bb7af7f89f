use Rattle.std.proofs.Common.{◌≡◌, ◌+◌, ◌*◌, ◌≤◌, ◌++◌, length, drop, refl, ap, ◌∙◌, arith}
use Rattle.std.proofs.lemmas.List.{length-append}
use Rattle.files.specs.Bytes.{word_bytes}
use Rattle.meetings.specs.Joined.{joined}
use Rattle.orders.specs.File.{body_bytes, entry_bytes, order_bytes, over}
use Rattle.orders.specs.Plans.{shuttles_of, waits_of}
use Rattle.orders.proofs.Buffers.{over_more}
use Rattle.orders.proofs.Lengths.{length-entries, length-order_bytes}
use Rattle.orders.proofs.write.Orders.put_file.Goals as goal

pub returns-then-out-len-clause-written : goal.returns-then-out-len-clause-written
returns-then-out-len-clause-written c = (omega (arith, c.file_len-len.ensures.bytes, c.if-out-len.true), refl)

pub put_bodies-requires : goal.put_bodies-requires
put_bodies-requires c =
    let long = length-order_bytes c.joins_stand.ensures (shuttles_of c.args.self.now) (waits_of c.args.self.now) in
    omega (arith, c.file_len-len.ensures.bytes, c.if-out-len.false, c.put_word.auto.out, c.put_contents.auto.out)

pub returns-clause-written : goal.returns-clause-written
returns-clause-written c =
    let n = shuttles_of c.args.self.now in
    let ws = waits_of c.args.self.now in
    let old = c.args.out.now in
    let a = word_bytes n in
    let b = joined (entry_bytes n ws) n in
    let d = joined (body_bytes ws) n in
    let b-long = length-entries c.joins_stand.ensures n ws n in
    let whole = c.file_len-len.ensures.bytes in
    let long = length-order_bytes c.joins_stand.ensures n ws in
    let room : 2 + 4 * n + length d ≤ length old = omega (arith, whole, long, c.if-out-len.false) in
    let first = over_more old 0 a b 2 refl (omega arith) in
    let second = over_more old 0 (a ++ b) d (2 + 4 * n) (omega (arith, length-append a b)) (omega (arith, length-append a b)) in
    let end : 0 + length (order_bytes n ws) ≡ c.file_len-len.result = omega arith in (
      whole,
      c.put_bodies.ensures
          ∙ ap (λ o. over o (2 + 4 * n) d) (c.put_contents.ensures ∙ ap (λ o. over o 2 b) (c.put_word.ensures ∙ ap (λ k. over old 0 (word_bytes k)) c.shuttles.ensures.value) ∙ first)
          ∙ second
          ∙ ap (λ k. order_bytes n ws ++ drop k old) end,
    )
