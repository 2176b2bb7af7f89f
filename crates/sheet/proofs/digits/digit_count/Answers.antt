use Rattle.std.proofs.Common.{arith}
use Rattle.sheet.proofs.Numbers.{counted}
use Rattle.sheet.proofs.digits.digit_count.Goals as goal

pub returns-clause-count : goal.returns-clause-count
returns-clause-count c =
    let e = c.checked_ilog10.ensures in
    omega (arith, c.unwrap_or.ensures, counted c.args.n c.checked_ilog10.result c.ranges.n.fits e.none e.power_le e.next_power_gt)
