use Rattle.std.proofs.Common.{◌<◌, List, length, set, ap, ◌∙◌, length-take, arith}
use Rattle.std.proofs.Math.Seq.{take-set-lt}
use Rattle.meetings.specs.declared.meet.First.{First}
use Rattle.redraw.proofs.redrawn.CompleteOrders.set.Goals as goal

pub returns : goal.returns
returns c =
    let o = c.self.inside in
    let low : c.args.meeting < o.len = omega (arith, c.requires, ap (λ (l : List First). length l) c.self.view_is, length-take o.len o.firsts) in
    take-set-lt o.len o.firsts c.args.meeting c.args.first low ∙ ap (λ (l : List First). set l c.args.meeting c.args.first) c.self.view_is
