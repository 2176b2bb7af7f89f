-- What is driven, as a state.
use Rattle.std.specs.Prelude.{vec_items}
use Rattle.run.specs.declared.run.Driven.TheInside.{Inside}
use Rattle.run.specs.Sound.{RunsSoundly}
use Rattle.run.specs.State.{State}

abbrev pub state_in : Inside → State
state_in d = record { number = d.number; plan = d.floor.plan; shuttles = d.floor.shuttles; firsts = vec_items d.firsts }

abbrev pub IsDriven : Inside → Type 0
IsDriven d = RunsSoundly (state_in d)
