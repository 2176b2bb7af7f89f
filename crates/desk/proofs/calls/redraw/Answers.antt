use Rattle.std.proofs.Common.{◌≡◌}
use Rattle.desk.specs.Calls.{fresh_list}
use Rattle.desk.proofs.Carried.{made_fresh, redraw_plainly, redraw_obeyed}
use Rattle.desk.proofs.Plain.{plain_some, plain_in}
use Rattle.desk.proofs.calls.redraw.Goals as goal

pub unwrap-requires : goal.unwrap-requires
unwrap-requires c =
    let fresh : c.new-2.result ≡ fresh_list = made_fresh c.new-2.result c.new.result c.new-2.ensures.kept c.new-2.ensures.below c.new.ensures.row c.new.ensures.free in
    plain_some c.carry.result (redraw_plainly _ c.args.budget c.new-2.result fresh c.args.dispatcher.now c.carry.new.entries c.carry.result c.carry.new.dispatcher c.carry.ensures)

pub returns-clause-obeyed : goal.returns-clause-obeyed
returns-clause-obeyed c =
    let fresh : c.new-2.result ≡ fresh_list = made_fresh c.new-2.result c.new.result c.new-2.ensures.kept c.new-2.ensures.below c.new.ensures.row c.new.ensures.free in
    redraw_obeyed _ c.args.budget c.new-2.result fresh c.args.dispatcher.now c.carry.new.entries c.carry.result c.carry.new.dispatcher c.carry.ensures c.unwrap.result c.unwrap.ensures

pub returns-clause-plain : goal.returns-clause-plain
returns-clause-plain c =
    let fresh : c.new-2.result ≡ fresh_list = made_fresh c.new-2.result c.new.result c.new-2.ensures.kept c.new-2.ensures.below c.new.ensures.row c.new.ensures.free in
    plain_in c.carry.result c.unwrap.result c.unwrap.ensures (redraw_plainly _ c.args.budget c.new-2.result fresh c.args.dispatcher.now c.carry.new.entries c.carry.result c.carry.new.dispatcher c.carry.ensures)
