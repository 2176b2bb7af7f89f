use Rattle.std.proofs.Common.{◌≡◌, ◌++◌, take, string_bytes}
use Rattle.std.specs.List.{flat_map}
use Rattle.report.specs.Texts.{stop_text}
use Rattle.report.proofs.path_line.Given as goal

abbrev pub invariant-loop-stop : goal.invariant-loop-stop
invariant-loop-stop l = string_bytes l.text ≡ string_bytes l.initial.text ++ flat_map stop_text (take l.stop-index l.stop-items)
