use Rattle.std.proofs.Common.{◌≡◌, ◌++◌, drop, string_bytes}
use Rattle.files.specs.Views.{paths_of}
use Rattle.report.specs.Texts.{path_texts}
use Rattle.report.proofs.add_paths.Given as goal

abbrev pub invariant-loop-shuttle : goal.invariant-loop-shuttle
invariant-loop-shuttle l =
    string_bytes l.text ++ path_texts l.shuttle (drop l.shuttle (paths_of l.path-items)) ≡ string_bytes l.initial.text ++ path_texts 0 (paths_of l.path-items)
