use Rattle.std.proofs.Common.{◌≡◌, ◌++◌, take, string_bytes}
use Rattle.std.specs.List.{flat_map}
use Rattle.report.specs.Texts.{wait_text}
use Rattle.report.proofs.add_waits.Given as goal

abbrev pub invariant-loop-wait : goal.invariant-loop-wait
invariant-loop-wait l = string_bytes l.text ≡ string_bytes l.initial.text ++ flat_map wait_text (take l.wait-index l.waits)
