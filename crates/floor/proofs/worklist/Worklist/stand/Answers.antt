use Rattle.std.proofs.Common.{◌<◌, set, refl, ◌∙◌, arith}
use Rattle.std.proofs.lemmas.List.{length-set}
use Rattle.traffic.specs.Scene.{at}
use Rattle.floor.specs.declared.worklist.Entry.{Entry}
use Rattle.floor.specs.Worklists.{entry_of}
use Rattle.floor.proofs.Standing.{one_shaped, one_other, one_more}
use Rattle.floor.proofs.worklist.Worklist.stand.Goals as goal

pub loop-stop-preserved : goal.loop-stop-preserved
loop-stop-preserved c =
    let w = c.loop-stop.self in
    let h = c.loop-stop.invariant in
    let s = c.args.shuttle in
    let i = c.loop-stop.stop in
    let x : Entry = record { tick = 0; waiting = (entry_of w (at s i)).waiting } in
    let short : i < 64 = omega (arith, c.loop-stop-test.true, c.requires.stop) in
    record {
      shaped = one_shaped w h.shaped s i c.requires.shuttle short x;
      progress = h.progress;
      entered = one_more w h.shaped s i c.requires.shuttle short x refl h.entered;
      others = λ a ne. one_other w h.shaped s i c.requires.shuttle short x a (λ e _. ne e) ∙ h.others a ne;
    }

pub returns : goal.returns
returns c =
    let w = c.loop-stop.self in
    let h = c.loop-stop.invariant in
    record {
      shaped = record { rows = h.shaped.rows; wide = h.shaped.wide; progress = length-set w.progress c.args.shuttle _ ∙ h.shaped.progress };
      progress = (λ i. set (h.progress i) c.args.shuttle (record { stop = c.args.one.stop; seen = 0; latest = c.from.ensures i }));
      entered = λ i le. h.entered i (omega (arith, le, c.loop-stop-test.false));
      others = h.others;
    }
