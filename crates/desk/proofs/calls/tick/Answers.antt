use Rattle.desk.proofs.Carried.{tick_plainly}
use Rattle.desk.proofs.Plain.{plain_some, plain_in}
use Rattle.desk.proofs.calls.tick.Goals as goal

pub unwrap-requires : goal.unwrap-requires
unwrap-requires c = plain_some c.carry.result (tick_plainly _ _ c.args.dispatcher.now c.carry.new.entries c.carry.result c.carry.new.dispatcher c.args.standing c.carry.ensures)

pub returns-clause-plain : goal.returns-clause-plain
returns-clause-plain c = plain_in c.carry.result c.unwrap.result c.unwrap.ensures (tick_plainly _ _ c.args.dispatcher.now c.carry.new.entries c.carry.result c.carry.new.dispatcher c.args.standing c.carry.ensures)
