use Rattle.desk.proofs.Lawful.{lawfully, sheet_obeyed}
use Rattle.desk.proofs.obey.Goals as goal

pub returns-in-Hold-clause-carries : goal.returns-in-Hold-clause-carries
returns-in-Hold-clause-carries c = rw c.in-Hold.is (lawfully c.tallies_stand.ensures.stand _ _ _ _ _ _ (c.hold.ensures.obeyed c.args.sheet.now))

pub returns-in-Tick-clause-carries : goal.returns-in-Tick-clause-carries
returns-in-Tick-clause-carries c = rw c.in-Tick.is (lawfully c.tallies_stand.ensures.stand _ _ _ _ _ _ (c.tick.ensures.obeyed c.args.sheet.now))

pub returns-in-Redraw-clause-carries : goal.returns-in-Redraw-clause-carries
returns-in-Redraw-clause-carries c = rw c.in-Redraw.is (lawfully c.tallies_stand.ensures.stand _ _ _ _ _ _ (c.redraw.ensures.obeyed c.args.sheet.now))

pub returns-in-Sheet-clause-carries : goal.returns-in-Sheet-clause-carries
returns-in-Sheet-clause-carries c =
    rw c.in-Sheet.is (lawfully c.tallies_stand.ensures.stand _ _ _ _ _ _ (sheet_obeyed c.show.result c.args.dispatcher.now c.args.sheet.now c.show.new.sheet c.show.ensures.reply))
