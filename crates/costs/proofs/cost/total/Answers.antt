use Rattle.std.proofs.Common.{rules, ◌≡◌, ◌∙◌, ℕ, ap, fold}
use Rattle.std.specs.List.{enumerate_from}
use Rattle.std.proofs.lemmas.Iterator.{YieldsList-from_slice}
use Rattle.std.proofs.lemmas.Iterator.Consumers.{YieldsList-from_enumerate, fold_from_yields_List}
use Rattle.costs.specs.Laws.{IsCost}
use Rattle.costs.specs.Totals.{total}
use Rattle.costs.proofs.Totals.{total_later}
use Rattle.costs.proofs.cost.total.Given as given
use Rattle.costs.proofs.cost.total.Goals as goal

sums : (g : given.Over) (c : goal.After-fold g) → c.fold.result ≡ total (g.C.Cost.start c.args.cost.now) (g.C.Cost.next c.args.cost.now) c.args.arrivals.now
sums g c =
    let h : ℕ → (ℕ × ℕ) → ℕ = λ t n. g.C.Cost.next c.args.cost.now t n.0 n.1 in
    fold_from_yields_List _ h c.start.result _ c.fold.ensures.ran (YieldsList-from_enumerate (YieldsList-from_slice c.args.arrivals.now (cc)) c.enumerate.ensures.count) (λ a x b q k. search rules) ∙ ap (λ s. fold h s (enumerate_from 0 c.args.arrivals.now)) c.start.ensures

pub returns-clause-value : goal.returns-clause-value
returns-clause-value g c = sums g c

pub returns-clause-least : goal.returns-clause-least
returns-clause-least g c =
    let start = g.C.Cost.start c.args.cost.now in
    let next = g.C.Cost.next c.args.cost.now in
    let laws = g.met.C.Cost in
    let cost = c.args.cost.now in
    let keeps : IsCost start next = record { later = laws.later cost; greater = laws.greater cost; fits = laws.fits cost } in
    rw (sums g c) (total_later start next keeps c.args.arrivals.now)
