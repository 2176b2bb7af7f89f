use Rattle.std.proofs.Common.{◌≡◌, ℕ, List, ◌++◌, IfOk, string_bytes, rules, codes, decimal, ◌∙◌, append_assoc}
use Rattle.std.proofs.lemmas.Result.{IfOk-weaker}
use Rattle.report.specs.Texts.{end_line}
use Rattle.report.proofs.orders_line.Goals as goal

regroup : (a b c d e f : List ℕ) → a ++ (b ++ (c ++ (d ++ (e ++ f)))) ≡ a ++ b ++ c ++ d ++ e ++ f
regroup a b c d e f = simp append_assoc

pub returns : goal.returns
returns c =
    let m = decimal c.args.meetings in
    let b = decimal c.args.bytes in
    let pieces : IfOk c.format.result (λ t. string_bytes t ≡ codes "orders.bin: " ++ (m ++ (codes " meetings, " ++ (b ++ (codes " bytes" ++ end_line))))) = search rules in
    IfOk-weaker c.format.result _ _ (λ t e. e ∙ regroup (codes "orders.bin: ") m (codes " meetings, ") b (codes " bytes") end_line) pieces
