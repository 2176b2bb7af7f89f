use Rattle.std.proofs.Common.{◌≡◌, None, sym, ◌∙◌}
use Rattle.lines.specs.Lines.{command_of}
use Rattle.desk.proofs.Lawful.{lawfully, bad_obeyed}
use Rattle.desk.proofs.carry_out.Goals as goal

pub returns-in-None-clause-carries : goal.returns-in-None-clause-carries
returns-in-None-clause-carries c =
    let bad : command_of c.args.line.now ≡ None = sym c.read_line.ensures.value ∙ c.in-None.is in
    rw (bad, c.refused.ensures) (lawfully c.tallies_stand.ensures.stand _ _ _ _ _ _ (bad_obeyed c.args.dispatcher.now c.args.sheet.now))
