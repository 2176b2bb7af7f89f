use Rattle.run.specs.Views.{state_in}
use Rattle.run.proofs.Carrying.{after_hold}
use Rattle.run.proofs.run.Driven.hold.Goals as goal

pub invariant_of-self : goal.invariant_of-self
invariant_of-self c = after_hold c.runs_stand.ensures (state_in c.self.inside) c.self.invariant c.args.shuttle c.args.ticks c.hold.new.self c.hold.ensures.after
