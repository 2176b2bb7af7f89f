use Rattle.std.proofs.Common.{◌≡◌, ◌<◌, [], length, get_or, sym, ap, ◌∙◌, arith}
use Rattle.std.proofs.lemmas.List.{length-map, get_or-map}
use Rattle.files.specs.Views.{path_of, paths_of}
use Rattle.report.specs.Texts.{path_text}
use Rattle.report.proofs.Lines.{lines_more}
use Rattle.report.proofs.add_paths.Goals as goal

pub loop-shuttle-preserved : goal.loop-shuttle-preserved
loop-shuttle-preserved c =
    let i = c.loop-shuttle.shuttle in
    let items = c.paths-path-items.result.now in
    let paths = paths_of items in
    let here : get_or paths i [] ≡ path_of c.path-item.result = get_or-map path_of items i c.path-item.result [] c.loop-shuttle-test.true ∙ ap path_of (sym c.path-item.is) in
    let lt : i < length paths = omega (arith, length-map items path_of) in
    lines_more paths i _ c.as_str.result.now _ _ lt c.loop-shuttle.invariant (c.as_str.ensures.value ∙ c.in_ok-line.ensures ∙ ap (path_text i) (sym here)) c.in_ok-push_str.ensures.bytes
