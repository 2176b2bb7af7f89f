use Rattle.std.proofs.Common.{◌≡◌, ◌*◌, ◌-◌, ◌%◌, ◌^◌, ◌≤◌, ap, ◌∙◌, arith}
use native.Mathlib.Nat.{pow-le-pow_right}
use Rattle.std.specs.Int.{bit_at}
use Rattle.std.proofs.lemmas.Nat.{one_shl}
use Rattle.std.proofs.lemmas.Nat.Bits.{bit_at_ones}
use Rattle.floor.proofs.floor.Floor.everyone.Goals as goal

pub overflow_cast-result : goal.overflow_cast-result
overflow_cast-result c =
    let n = c.count.result in
    let few : n ≤ 32 = c.count.ensures.few in
    let most : 2 ^ n ≤ 2 ^ 32 = pow-le-pow_right (omega arith) few in
    omega (arith, one_shl n 64 (omega (arith, few)), most)

pub returns : goal.returns
returns c = λ s lt.
    let n = c.count.result in
    let one : 1 * 2 ^ n % 2 ^ 64 ≡ 2 ^ n = omega (arith, one_shl n 64 (omega (arith, c.count.ensures.few))) in
    ap (λ w. bit_at (w - 1) s) one ∙ bit_at_ones n s (omega (arith, lt, c.count.ensures.all))
