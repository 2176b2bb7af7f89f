use Rattle.sheet.proofs.Decimals.{digits_read_back, no_zero_leads}
use Rattle.sheet.proofs.digits_stand.Goals as goal

pub returns : goal.returns
returns c = record { back = digits_read_back c.decimals_stand.ensures.write; lead = no_zero_leads }
