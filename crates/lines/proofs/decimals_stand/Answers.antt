use Rattle.lines.proofs.Digits.{decimal_writes}
use Rattle.lines.proofs.decimals_stand.Goals as goal

pub returns : goal.returns
returns c = record { write = decimal_writes }
