use Rattle.sheet.proofs.Nexts.{arrivals_tell}
use Rattle.sheet.proofs.Rooms.{sheets_fit, sheets_are_ascii}
use Rattle.sheet.proofs.sheets_stand.Goals as goal

pub returns : goal.returns
returns c = record { next = arrivals_tell; fit = sheets_fit c.rows_stand.ensures.same; ascii = sheets_are_ascii }
