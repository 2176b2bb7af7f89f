use Rattle.std.proofs.Common.{◌≡◌, ◌++◌, List, length, drop, decimal, sym, ap, ◌∙◌, arith}
use Rattle.sheet.specs.Digits.{digits}
use Rattle.sheet.proofs.Decimals.{digits_decimal}
use Rattle.sheet.proofs.digits.put_number.Goals as goal

pub write_digits-requires : goal.write_digits-requires
write_digits-requires c =
    let same : decimal c.into.result ≡ digits c.args.n = ap decimal c.into.ensures ∙ sym (digits_decimal c.args.n c.ranges.n.fits) in
    let long = ap (λ (l : List _). length l) same in
    (omega (arith, long, c.digit_count-end.ensures.count), omega (arith, c.digit_count-end.ensures.count, c.requires))

pub returns : goal.returns
returns c =
    let new = c.write_digits.new.buf in
    let same : decimal c.into.result ≡ digits c.args.n = ap decimal c.into.ensures ∙ sym (digits_decimal c.args.n c.ranges.n.fits) in
    let long = ap (λ (l : List _). length l) same in
    let start : c.write_digits.result ≡ 0 = omega (arith, long, c.digit_count-end.ensures.count, c.write_digits.ensures.start) in
    record {
      count = c.digit_count-end.ensures.count;
      buffer = ap (λ k. drop k new) (sym start) ∙ c.write_digits.ensures.written ∙ ap (λ (l : List _). l ++ drop c.digit_count-end.result c.args.out.now) same;
    }
