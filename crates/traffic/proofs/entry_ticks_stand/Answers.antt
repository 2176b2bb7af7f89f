use Rattle.traffic.proofs.Later.{more_is_later, satisfied_is_same}
use Rattle.traffic.proofs.Ranking.{entry_ticks_rise, ranked_exactly, holds_make_no_ring, ticks_make_no_ring, fewer_make_no_ring}
use Rattle.traffic.proofs.Step.{ticks_are_entry_ticks}
use Rattle.traffic.proofs.Sweep.{entry_ticks_agree, on_paths_are_timed}
use Rattle.traffic.proofs.entry_ticks_stand.Goals as goal

pub returns : goal.returns
returns c = record {
  agree = entry_ticks_agree;
  timed = on_paths_are_timed;
  rise = entry_ticks_rise;
  ranked = ranked_exactly;
  holds = holds_make_no_ring;
  ticks = ticks_make_no_ring;
  fewer = fewer_make_no_ring;
  execution = ticks_are_entry_ticks;
  later = more_is_later;
  same = satisfied_is_same;
}
