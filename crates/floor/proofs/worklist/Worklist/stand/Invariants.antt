use Rattle.std.proofs.Common.{◌≡◌, ℕ, ◌<◌}
use Rattle.meetings.specs.declared.stays.At.{At}
use Rattle.traffic.specs.Scene.{at}
use Rattle.floor.specs.Worklists.{Shaped, entry_of}
use Rattle.floor.proofs.worklist.Worklist.stand.Given as goal

abbrev pub invariant-loop-stop : goal.invariant-loop-stop
invariant-loop-stop l = record {
  shaped : Shaped l.self;
  progress : l.self.progress ≡ l.initial.self.progress;
  entered : (i : ℕ) → i < l.stop → (entry_of l.self (at l.shuttle i)).tick ≡ 0;
  others : (a : At) → (a.shuttle ≡ l.shuttle → ⊥) → entry_of l.self a ≡ entry_of l.initial.self a;
}
