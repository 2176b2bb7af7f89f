use Rattle.std.proofs.Common.{◌≡◌, ℕ, ap, ◌∙◌, sym, slice_set}
use Rattle.std.specs.Int.Bits.{or_zero_r, bit_or}
use Rattle.meetings.specs.declared.stays.At.{At}
use Rattle.floor.specs.declared.worklist.Worklist.{Worklist}
use Rattle.floor.specs.Worklists.{entry_of, progress_of, with_entry, with_tick}
use Rattle.floor.proofs.worklist.Worklist.enter.Goals as goal
use Rattle.floor.proofs.worklist.Worklist.enter.Goals.{then-entry-ne0, else-entry-ne0}

-- a shuttle has come to a stop
abbrev with_stop : Worklist → At → Worklist
with_stop w a = record { entries = w.entries; progress = slice_set w.progress a.shuttle (record { stop = a.stop; seen = (progress_of w a.shuttle).seen; latest = (progress_of w a.shuttle).latest }); ready = w.ready }

-- for a stop that nobody waits for there is no more to do
nobody_waits : (w : Worklist) (a : At) (tick : ℕ) → (entry_of w a).waiting ≡ 0 → with_stop (record { entries = with_entry w.entries a (record { tick = tick; waiting = (entry_of w a).waiting }); progress = w.progress; ready = w.ready }) a ≡ with_tick w a tick
nobody_waits w a tick none =
    let same : w.ready ≡ bit_or w.ready (entry_of w a).waiting = sym (ap (bit_or w.ready) none ∙ or_zero_r w.ready) in
    λ i. with_stop (record { entries = with_entry w.entries a (record { tick = tick; waiting = none i }); progress = w.progress; ready = same i }) a

pub returns : goal.returns
returns c = elim c.if-entry-ne0.branch [
  | then-entry-ne0 w ↦ ap (λ v. with_stop v c.args.at) w.self-is
  | else-entry-ne0 w ↦ ap (λ v. with_stop v c.args.at) w.self-is ∙ nobody_waits c.args.self.now c.args.at c.args.tick w.if-entry-ne0.false
]
