-- A line that grows part by part.
use Rattle.std.proofs.Common.{◌≡◌, ℕ, ◌+◌, ◌<◌, List, [], ◌++◌, length, get_or, drop, sym, ap, ◌∙◌, append_assoc, add-one}
use Rattle.std.proofs.lemmas.List.{at_drop_more}
use Rattle.files.specs.declared.plan.Stop.{Stop}
use Rattle.report.specs.Texts.{path_text, path_texts}

-- the lines of the paths, one line more
pub lines_more :
    (paths : List (List Stop)) (i : ℕ) (text line longer whole : List ℕ) → i < length paths → text ++ path_texts i (drop i paths) ≡ whole
    → line ≡ path_text i (get_or paths i []) → longer ≡ text ++ line → longer ++ path_texts (i + 1) (drop (i + 1) paths) ≡ whole
lines_more paths i text line longer whole lt e l w =
    let step : path_texts i (drop i paths) ≡ line ++ path_texts (i + 1) (drop (i + 1) paths) = at_drop_more (path_texts i) paths i [] lt ∙ (λ j. sym l j ++ path_texts (sym (add-one i) j) (drop (i + 1) paths)) in
    ap (λ t. t ++ path_texts (i + 1) (drop (i + 1) paths)) w ∙ append_assoc text line _ ∙ ap (λ t. text ++ t) (sym step) ∙ e
