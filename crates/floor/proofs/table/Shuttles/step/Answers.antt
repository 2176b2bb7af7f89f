use Rattle.std.proofs.Common.{◌≡◌, ◌<◌, List, length, ap, ◌∙◌, arith}
use Rattle.std.proofs.ByRecursion.{All-get_or}
use Rattle.floor.specs.declared.table.Shuttle.{Shuttle}
use Rattle.floor.specs.Shuttles.{fresh, shuttle_at, step}
use Rattle.floor.specs.Words.{bit}
use Rattle.floor.proofs.Indexing.{written_back}
use Rattle.floor.proofs.Tables.{same_length, same_here, stepped_next, stepped_all}
use Rattle.floor.proofs.table.Shuttles.step.Goals as goal

pub after_tick-requires : goal.after_tick-requires
after_tick-requires c =
    let xs = c.args.self.now in
    let k = c.loop-shuttle.shuttle in
    let m = bit c.args.moved in
    let inv = c.loop-shuttle.invariant in
    let small : (shuttle_at xs k).stop < 65536 = All-get_or _ xs k fresh (omega (arith, same_length m k _ xs inv)) c.requires.fits in
    omega (arith, ap (λ (x : Shuttle). x.stop) (same_here m k _ xs inv), small)

pub loop-shuttle-preserved : goal.loop-shuttle-preserved
loop-shuttle-preserved c =
    let xs = c.args.self.now in
    let k = c.loop-shuttle.shuttle in
    let m = bit c.args.moved in
    let inv = c.loop-shuttle.invariant in
    stepped_next m k _ xs c.after_tick.result (omega (arith, same_length m k _ xs inv)) inv (c.after_tick.ensures ∙ (λ i. step (c.names.ensures i) (same_here m k _ xs inv i)))

pub returns : goal.returns
returns c =
    let xs = c.args.self.now in
    let ys = c.loop-shuttle.one-items in
    let k = c.loop-shuttle.shuttle in
    let m = bit c.args.moved in
    let inv = c.loop-shuttle.invariant in
    let was = c.self.inside.records in
    let count : length was.items ≡ length xs = ap (λ (l : List Shuttle). length l) c.self.view_is in
    written_back ys was.items was.len (omega (arith, same_length m k ys xs inv, count)) was.ok.0
    ∙ inv
    ∙ stepped_all m 0 k xs (omega (arith, same_length m k ys xs inv, c.loop-shuttle-test.false, ap (λ (l : List Shuttle). length l) c.deref_mut-one-items.ensures.value, count))
