use Rattle.std.proofs.Common.{◌+◌, ◌++◌, refl, ap, ◌∙◌, arith}
use Rattle.files.specs.Bytes.{word_bytes}
use Rattle.orders.specs.File.{over}
use Rattle.orders.proofs.Buffers.{over_more}
use Rattle.orders.proofs.write.put_wait.Goals as goal

pub returns : goal.returns
returns c =
    let old = c.args.out.now in
    let at = c.args.at in
    let a = word_bytes c.args.wait.now.second.stop in
    let b = word_bytes c.args.wait.now.awaited.shuttle in
    let d = word_bytes c.args.wait.now.awaited.stop in
    c.put_word-3.ensures
    ∙ ap (λ o. over o (at + 4) d) (c.put_word-2.ensures ∙ ap (λ o. over o (at + 2) b) c.put_word.ensures ∙ over_more old at a b (at + 2) refl (omega (arith, c.requires.space)))
    ∙ over_more old at (a ++ b) d (at + 4) refl (omega (arith, c.requires.space))
