use Rattle.std.proofs.Common.{◌≡◌, ℕ, List, ◌++◌, IfOk, string_bytes, rules, codes, decimal, ◌∙◌, append_assoc}
use Rattle.std.proofs.lemmas.Result.{IfOk-weaker}
use Rattle.report.specs.Texts.{end_line}
use Rattle.report.proofs.wait_line.Goals as goal

regroup : (a b c d e f g h i : List ℕ) → a ++ (b ++ (c ++ (d ++ (e ++ (f ++ (g ++ (h ++ i))))))) ≡ a ++ b ++ c ++ d ++ e ++ f ++ g ++ h ++ i
regroup a b c d e f g h i = simp append_assoc

pub returns : goal.returns
returns c =
    let w = c.args.wait.now in
    let a = decimal w.second.stop in
    let b = decimal w.second.shuttle in
    let d = decimal w.awaited.stop in
    let e = decimal w.awaited.shuttle in
    let pieces : IfOk c.format.result (λ t. string_bytes t ≡ codes "stop " ++ (a ++ (codes " of shuttle " ++ (b ++ (codes " waits for stop " ++ (d ++ (codes " of shuttle " ++ (e ++ end_line)))))))) = search rules in
    IfOk-weaker c.format.result _ _ (λ t x. x ∙ regroup (codes "stop ") a (codes " of shuttle ") b (codes " waits for stop ") d (codes " of shuttle ") e end_line) pieces
