use Rattle.std.proofs.Common.{◌≡◌, ℕ, List, ◌++◌, length, IfOk, string_bytes, rules, codes, decimal, sum_by, sym, ap, ◌∙◌, append_assoc}
use Rattle.std.proofs.lemmas.List.{length-map}
use Rattle.std.proofs.lemmas.Result.{IfOk-weaker}
use Rattle.files.specs.Views.{path_of}
use Rattle.report.specs.Texts.{spaced, end_line}
use Rattle.report.proofs.counts_line.Goals as goal

-- the pieces of the format, bracketed as the line is
regroup : (p w s x y z e : List ℕ) → p ++ (w ++ (s ++ (x ++ (s ++ (y ++ (s ++ (z ++ e))))))) ≡ p ++ w ++ (s ++ x) ++ (s ++ y) ++ (s ++ z) ++ e
regroup p w s x y z e = simp append_assoc

pieces : (a b d m : ℕ) → codes "plan " ++ (decimal a ++ (codes " " ++ (decimal b ++ (codes " " ++ (decimal d ++ (codes " " ++ (decimal m ++ end_line))))))) ≡ codes "plan" ++ spaced a ++ spaced b ++ spaced d ++ spaced m ++ end_line
pieces a b d m = regroup (codes "plan ") (decimal a) (codes " ") (decimal b) (decimal d) (decimal m) end_line

pub returns : goal.returns
returns c =
    let plan = c.args.plan.now in
    let shuttles : length c.paths.result.now ≡ length plan.paths = sym (length-map c.paths.result.now path_of) ∙ ap length c.paths.ensures.value in
    let stops : c.stop_total-stops.result ≡ sum_by length plan.paths = c.stop_total-stops.ensures ∙ ap (sum_by length) c.paths-2.ensures.value in
    let tables = ap length c.tables.ensures.value in
    let meetings = ap length c.meetings.ensures.value in
    let a = decimal (length c.paths.result.now) in
    let b = decimal c.stop_total-stops.result in
    let d = decimal (length c.tables.result.now) in
    let m = decimal (length c.meetings.result.now) in
    let text : IfOk c.format.result (λ t. string_bytes t ≡ codes "plan " ++ (a ++ (codes " " ++ (b ++ (codes " " ++ (d ++ (codes " " ++ (m ++ end_line)))))))) = search rules in
    IfOk-weaker c.format.result _ _ (λ t x. x ∙ pieces _ _ _ _ ∙ (λ i. codes "plan" ++ spaced (shuttles i) ++ spaced (stops i) ++ spaced (tables i) ++ spaced (meetings i) ++ end_line)) text
