use Rattle.std.proofs.Common.{◌≡◌, take}
use Rattle.lines.specs.Numbers.{worth}
use Rattle.lines.proofs.numbers.digits_worth.Given as goal

abbrev pub invariant-loop-digit : goal.invariant-loop-digit
invariant-loop-digit l = l.value ≡ worth (take l.digit-index l.digits)
