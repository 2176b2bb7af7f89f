use Rattle.std.proofs.Common.{◌≡◌, ◌+◌, ◌-◌, ◌*◌, length, vec_items}
use Rattle.files.specs.Layout.{row, stop, next_stop, stops}
use Rattle.files.proofs.layout.Reader.path.Given as goal

abbrev pub invariant-loop : goal.invariant-loop
invariant-loop l =
    (stops l.self.bytes.now l.count l.fn.self.at ≡ row (stop l.self.bytes.now) next_stop (l.count - l.counter) l.self.at (vec_items l.stops))
    × (l.self.at ≡ l.fn.self.at + 4 * l.counter)
    × (length (vec_items l.stops) ≡ l.counter)
    × (l.self.bytes ≡ l.fn.self.bytes)
