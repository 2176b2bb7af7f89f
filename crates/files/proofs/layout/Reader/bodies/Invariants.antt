use Rattle.std.proofs.Common.{◌≡◌, ◌-◌, length, vec_items}
use Rattle.files.specs.Layout.{row, body, next_body, bodies}
use Rattle.files.specs.Views.{paths_of}
use Rattle.files.proofs.layout.Reader.bodies.Given as goal

abbrev pub invariant-loop-count : goal.invariant-loop-count
invariant-loop-count l =
    (bodies l.self.bytes.now l.counts l.fn.self.at
    ≡ row (body l.self.bytes.now l.counts) next_body (length l.counts - l.count-index) (record { at = l.self.at; shuttle = l.count-index }) (paths_of (vec_items l.paths)))
    × (l.self.bytes ≡ l.fn.self.bytes)
