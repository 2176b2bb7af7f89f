use Rattle.floor.proofs.Words.{word_over}
use Rattle.floor.proofs.table.too_many.Goals as goal

pub returns-then-count-lt-MOST_SHUTTLES : goal.returns-then-count-lt-MOST_SHUTTLES
returns-then-count-lt-MOST_SHUTTLES c = word_over c.args.standing c.args.count
