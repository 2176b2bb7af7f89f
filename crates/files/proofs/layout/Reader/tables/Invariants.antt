use Rattle.std.proofs.Common.{◌≡◌, ◌+◌, ◌-◌, ◌*◌, vec_items}
use Rattle.files.specs.Layout.{row, table, next_table, tables}
use Rattle.files.proofs.layout.Reader.tables.Given as goal

abbrev pub invariant-loop : goal.invariant-loop
invariant-loop l =
    (tables l.self.bytes.now l.places l.fn.self.at
    ≡ row (table l.self.bytes.now) next_table (l.places - l.counter) (record { at = l.self.at; low = l.low }) (vec_items l.tables))
    × (l.self.at ≡ l.fn.self.at + 2 * l.counter)
    × (l.self.bytes ≡ l.fn.self.bytes)
