-- The laws of what is below.
use Rattle.costs.specs.Laws.{TotalsNeverLess}
use Rattle.traffic.specs.Stands.{EntryTickLaws, RoundLaws, WaitLaws}
use Rattle.run.specs.Laws.{RunLaws}

pub record Below : Type 0 where
  pub ticks : EntryTickLaws
  pub rounds : RoundLaws
  pub waits : WaitLaws
  pub runs : RunLaws
  pub totals : TotalsNeverLess
