-- The digits are those that the kit's formats print.
use Rattle.std.proofs.Common.{◌≡◌, ℕ, ◌+◌, ◌%◌, ◌^◌, ◌<◌, List, [], ◌∷◌, ◌++◌, get_or, decimal, sym, ap, ◌∙◌, subst, arith}
use Rattle.std.proofs.lemmas.Fmt.{decimal_by_steps, first_decimal}
use Rattle.lines.specs.Laws.{DecimalsWrite}
use Rattle.lines.specs.Numbers.{Writes}
use Rattle.sheet.specs.Digits.{digits}
use Rattle.sheet.specs.Laws.{DigitsReadBack, NoZeroLeads}
use Rattle.sheet.proofs.Numbers.{digits_one, digits_step}

pub digits_decimal : (n : ℕ) → n < 2 ^ 32 → digits n ≡ decimal n
digits_decimal n small = decimal_by_steps (λ m ds. m < 2 ^ 32 → digits m ≡ ds)
    (λ m lt _. digits_one m lt ∙ ap (λ d. (48 + d) ∷ []) (omega (arith, lt)))
    (λ m ds le h s. digits_step m s le ∙ ap (λ (l : List ℕ). l ++ (48 + m % 10) ∷ []) (h (omega (arith, s))))
    n (omega (arith, small)) small

pub digits_read_back : DecimalsWrite → DigitsReadBack
digits_read_back decimal_writes n small = subst (λ (l : List ℕ). Writes l n) (sym (digits_decimal n small)) (decimal_writes n small)

pub no_zero_leads : NoZeroLeads
no_zero_leads n pos small = subst (λ (l : List ℕ). 48 < get_or l 0 0) (sym (digits_decimal n small)) (first_decimal n pos (omega (arith, small)))
