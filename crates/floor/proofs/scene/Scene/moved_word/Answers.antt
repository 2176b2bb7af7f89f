use Rattle.std.proofs.Common.{◌*◌, ◌%◌, ◌^◌, length, ap, ◌∙◌, bit_or, rules, arith, fold, filter}
use borrow.Author.Tests.{tests}
use Rattle.std.specs.List.{range_with_len}
use Rattle.std.proofs.lemmas.Iterator.{YieldsList-from_range}
use Rattle.std.proofs.lemmas.Iterator.Consumers.{YieldsList-from_filter, fold_from_yields_List}
use Rattle.floor.specs.Scenes.{movers}
use Rattle.floor.specs.Under.{orders_under, paths_under}
use Rattle.floor.proofs.Floors.{few}
use Rattle.floor.proofs.Words.{word_folded}
use Rattle.floor.proofs.scene.Scene.moved_word.Goals as goal

pub returns : goal.returns
returns c =
    let u = c.args.self.now in
    let named = movers (paths_under u) (orders_under u) c.args.standing u.floor.now.shuttles in
    let n = c.count.result in
    fold_from_yields_List _ (λ w k. bit_or w (1 * 2 ^ k % 2 ^ 32)) 0 c.fold.result c.fold.ensures.ran
    (YieldsList-from_filter _ named (YieldsList-from_range 0 n n c.filter.ensures.source (omega arith)) c.filter.ensures.closure (λ x b q k. search (rules, tests)))
    (λ a x b q k. search (rules, tests))
    ∙ ap (λ m. fold (λ w k. bit_or w (1 * 2 ^ k % 2 ^ 32)) 0 (filter named (range_with_len 0 m))) c.count.ensures.all
    ∙ word_folded named (length (paths_under u)) (few u.floor.now c.count.ensures.sound)
