-- Later arrivals never give a smaller total.
use Rattle.std.proofs.Common.{ℕ, suc, ◌+◌, ◌^◌, ◌<◌, ◌≤◌, fold, List, [], ◌∷◌, arith}
use Rattle.std.specs.List.{All, AllZip, enumerate_from}
use Rattle.costs.specs.Laws.{LaterNeverLess, GreaterNeverLess, GivesTotals, TotalsNeverLess}
use Rattle.costs.specs.Totals.{total}

pub total_from_later :
    (start : ℕ) (next : ℕ → ℕ → ℕ → ℕ) → LaterNeverLess next → GreaterNeverLess next → GivesTotals start next
    → (t u shuttle : ℕ) (arrivals later : List ℕ) → t ≤ u → u < 2 ^ 64
    → All (λ b. b < 2 ^ 32) later → AllZip (λ a b. a ≤ b) arrivals later
    → fold (λ t n. next t n.0 n.1) t (enumerate_from shuttle arrivals) ≤ fold (λ t n. next t n.0 n.1) u (enumerate_from shuttle later)
total_from_later start next l g f t u shuttle [] [] le fits few no_earlier = le
total_from_later start next l g f t u shuttle [] (b ∷ bs) le fits few no_earlier = absurd no_earlier
total_from_later start next l g f t u shuttle (a ∷ xs) [] le fits few no_earlier = absurd no_earlier
total_from_later start next l g f t u shuttle (a ∷ xs) (b ∷ bs) le fits few no_earlier =
    let sooner = l t shuttle a b (omega (arith, le, fits)) (few 0 b (omega arith)) no_earlier.0 in
    let less = g t u shuttle b fits (few 0 b (omega arith)) le in
    total_from_later start next l g f (next t shuttle a) (next u shuttle b) (shuttle + 1) xs bs (omega (arith, sooner, less)) (f.1 u shuttle b fits (few 0 b (omega arith))) (λ k d h. few (suc k) d (omega (arith, h))) no_earlier.1

-- the total of some arrivals is no more than that of any that are each no earlier
pub total_later : TotalsNeverLess
total_later start next keeps arrivals later few no_earlier =
    total_from_later start next keeps.later keeps.greater keeps.fits start start 0 arrivals later (omega arith) keeps.fits.0 few no_earlier
