use Rattle.std.proofs.Common.{length}
use Rattle.heap_cases.proofs.work_words.Given as goal

abbrev pub decreases-loop : goal.decreases-loop
decreases-loop l = length l.numbers.row
