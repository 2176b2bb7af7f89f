use Rattle.meetings.proofs.Clashing.{clash_law, clear_law, first_law, first_collision_law}
use Rattle.meetings.proofs.Stands.{meetings_law}
use Rattle.meetings.proofs.laws.meetings_stand.Goals as goal

pub returns : goal.returns
returns c =
    let rise = c.paths_stand.ensures.rise in
    record { listed = meetings_law; clash = clash_law rise; clear = clear_law rise; first = first_law rise; collision = first_collision_law rise }
