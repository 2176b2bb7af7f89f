use Rattle.std.proofs.Common.{ℕ, ◌+◌, ◌*◌, refl, rules, arith}
use Rattle.std.proofs.lemmas.Iterator.{YieldsList-from_range, cases_from_any}
use Rattle.orders.specs.Reading.{EntryIs}
use Rattle.orders.proofs.Back.{lists_from}
use Rattle.orders.proofs.read.lists.Goals as goal

pub returns : goal.returns
returns c =
    let At : ℕ → Type 0 = λ k. EntryIs c.args.bytes.now (c.args.begin + 6 * k) c.args.wait.now in
    lists_from c.args.bytes.now c.args.begin c.args.count c.args.wait.now c.any.result
    (cases_from_any _ _ c.any.result At (λ k. At k → ⊥) c.any.ensures.ran (YieldsList-from_range 0 c.args.count c.args.count refl (omega arith)) (λ x q k. search rules) (λ x q k. search rules))
