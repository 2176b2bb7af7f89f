use Rattle.traffic.proofs.Sweep.{sweeps_start, sweeps_advance, sweeps_end, sweeps_ring, sweeps_bound}
use Rattle.traffic.proofs.sweeps_stand.Goals as goal

pub returns : goal.returns
returns c = record { start = sweeps_start; advance = sweeps_advance; end = sweeps_end; ring = sweeps_ring; bound = sweeps_bound }
