use Rattle.std.proofs.Common.{take, Some, sym, ap, ◌∙◌, subst, inl, inr, arith, rules}
use Rattle.std.specs.Option.{option_map}
use Rattle.lines.specs.Numbers.{Digits, taken}
use Rattle.lines.proofs.Digits.{count_is, count_digits}
use Rattle.lines.proofs.Taken.{after, not_counted, not_fitting, number-taken}
use Rattle.lines.proofs.numbers.read_number.Goals as goal

pub returns-then-count-eq0 : goal.returns-then-count-eq0
returns-then-count-eq0 c =
    not_counted c.args.bytes.now (search rules) (search rules) c.digit_count-count.result (c.digit_count-count.ensures ∙ count_is (after c.args.bytes.now))
    (elim c.then-count-eq0.either [ inl e ↦ inl e | inr p ↦ inr (omega (arith, p.1)) ])

pub digits_worth-requires : goal.digits_worth-requires
digits_worth-requires c =
    let rest = after c.args.bytes.now in
    let cut = c.split_at.ensures.front ∙ ap (λ n. take n rest) (c.digit_count-count.ensures ∙ count_is (after c.args.bytes.now)) in
    record { few = omega (arith, c.split_at.ensures.front_len); all = subst Digits (sym cut) (count_digits rest) }

pub returns-in_err-value : goal.returns-in_err-value
returns-in_err-value c =
    ap (option_map taken) c.from_residual.ensures ∙
    not_fitting c.args.bytes.now (search rules) (search rules) c.digit_count-count.result (c.digit_count-count.ensures ∙ count_is (after c.args.bytes.now))
    c.split_at.result.0.now c.digits_worth.result c.split_at.ensures.front c.digits_worth.ensures c.in_err-value.ensures

pub returns : goal.returns
returns c =
    ap (λ n. Some (n, c.split_at.result.1.now)) c.in_ok-value.ensures.0 ∙
    number-taken c.args.bytes.now (search rules) (search rules) c.digit_count-count.result (c.digit_count-count.ensures ∙ count_is (after c.args.bytes.now))
    c.split_at.result.0.now c.digits_worth.result c.split_at.ensures.front c.digits_worth.ensures
    c.if-count-eq0.false (omega arith) c.in_ok-value.ensures.1 c.split_at.result.1.now c.split_at.ensures.back
