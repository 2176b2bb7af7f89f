use Rattle.std.proofs.Common.{◌≡◌, ◌+◌, ◌-◌, ◌*◌, vec_items, sum}
use Rattle.files.specs.declared.plan.TheConstants.{MOST_STOPS_IN_ALL}
use Rattle.files.specs.Layout.{row, entry, next_entry, contents}
use Rattle.files.proofs.layout.Reader.contents.Given as goal

abbrev pub invariant-loop : goal.invariant-loop
invariant-loop l =
    (contents l.self.bytes.now l.shuttles l.begin
    ≡ row (entry l.self.bytes.now) next_entry (l.shuttles - l.counter) (record { at = l.self.at; begin = l.end; room = l.room }) (vec_items l.counts))
    × (l.self.at ≡ 4 + 4 * l.counter)
    × (l.end ≡ l.begin + 4 * sum (vec_items l.counts))
    × (sum (vec_items l.counts) + l.room ≡ MOST_STOPS_IN_ALL)
    × (l.self.bytes ≡ l.fn.self.bytes)
