use Rattle.std.proofs.Common.{arith}
use Rattle.lines.proofs.Digits.{digit_is, worth_more, worth_small}
use Rattle.lines.proofs.numbers.digits_worth.Goals as goal

pub overflow_mul-value : goal.overflow_mul-value
overflow_mul-value c = omega (arith, worth_small c.args.digits.now c.loop-digit.digit-index c.requires.all (omega (arith, c.requires.few)))

pub overflow_add-value : goal.overflow_add-value
overflow_add-value c =
    omega (arith, worth_small c.args.digits.now c.loop-digit.digit-index c.requires.all (omega (arith, c.requires.few)), digit_is c.args.digits.now c.loop-digit.digit-index c.requires.all c.loop-digit-test.true)

pub loop-digit-preserved : goal.loop-digit-preserved
loop-digit-preserved c = omega (arith, worth_more c.args.digits.now c.loop-digit.digit-index c.requires.all c.loop-digit-test.true)
