use Rattle.traffic.proofs.Indexed.{waits_are_indexed}
use Rattle.traffic.proofs.Waiting.{stops_wait_exactly}
use Rattle.traffic.proofs.waits_stand.Goals as goal

pub returns : goal.returns
returns c = record { exactly = stops_wait_exactly; indexed = waits_are_indexed }
