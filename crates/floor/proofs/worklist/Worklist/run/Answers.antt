use Rattle.std.proofs.Common.{◌^◌, ◌<◌, arith}
use mir.Syntax.{w32}
use Rattle.std.specs.Int.Count.{count_trailing_zeros}
use Rattle.std.proofs.lemmas.Nat.Bits.{bit_at-trailing_zeros}
use Rattle.floor.proofs.Taking.{cared_looked, cared_taken, going_taken, less_taken}
use Rattle.floor.proofs.worklist.Worklist.run.Goals as goal

pub run_ahead-requires : goal.run_ahead-requires
run_ahead-requires c =
    let u = c.args.scene.now in
    let w = c.loop-self.self in
    let fits : w.ready < 2 ^ 32 = omega arith in
    let lowest = bit_at-trailing_zeros w32 w.ready (omega (arith, c.loop-self-test.true)) fits in
    let s = count_trailing_zeros 32 w.ready in
    record {
      going = going_taken u w s lowest.0 lowest.1 c.loop-self.invariant.going;
      looked = cared_looked u w s c.loop-self.invariant.cared;
      others = λ r lt ne. cared_taken u w s lowest.0 lowest.1 r ne (c.loop-self.invariant.cared r lt);
    }

pub loop-self-smaller : goal.loop-self-smaller
loop-self-smaller c =
    let u = c.args.scene.now in
    let w = c.loop-self.self in
    let fits : w.ready < 2 ^ 32 = omega arith in
    let lowest = bit_at-trailing_zeros w32 w.ready (omega (arith, c.loop-self-test.true)) fits in
    omega (arith, c.run_ahead.ensures.less, less_taken u w (count_trailing_zeros 32 w.ready) lowest.0 lowest.1 fits)
