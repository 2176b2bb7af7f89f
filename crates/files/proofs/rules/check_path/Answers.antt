use Rattle.std.proofs.Common.{refl, below_more}
use Rattle.files.proofs.Paths.{before_more, no_fault}
use Rattle.files.proofs.rules.check_path.Goals as goal

pub loop-stop-preserved : goal.loop-stop-preserved
loop-stop-preserved c =
    (below_more _ _ c.loop-stop.invariant.0 (λ lt. no_fault c.args.shuttle _ c.args.stops.now _ c.loop-stop.invariant.1 c.in_ok-check_stop.ensures), before_more c.args.stops.now c.loop-stop.stop _ refl)
