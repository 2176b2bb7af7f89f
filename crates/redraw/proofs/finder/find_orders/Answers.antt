use Rattle.std.proofs.Common.{◌≡◌, ℕ, List, length, Result, Ok, Err, IfOk, sym, ap, ◌∙◌, subst, rules, arith}
use Rattle.std.proofs.lemmas.Result.{err_from_is_err_and}
use Rattle.costs.specs.Laws.{IsCost}
use Rattle.search.specs.Questions.{Question}
use Rattle.search.specs.Reaching.{Searches}
use Rattle.run.specs.Opens.{open_meetings}
use Rattle.run.specs.State.{State}
use Rattle.redraw.specs.declared.redrawn.RedrawFault.{RedrawFault}
use Rattle.redraw.specs.declared.redrawn.Redrawn.{Redrawn}
use Rattle.redraw.specs.Costs.{IsBest}
use Rattle.redraw.specs.Laws.{CanRedraw}
use Rattle.redraw.specs.Nodes.{question}
use Rattle.redraw.specs.Orders.{orders_of_word}
use Rattle.redraw.specs.Redraws.{OneCost}
use Rattle.redraw.proofs.Redrawing.{redraws_of}
use Rattle.redraw.proofs.finder.find_orders.Given as given
use Rattle.redraw.proofs.finder.find_orders.Goals as goal

pub returns-in_err-found-clause-redraws : goal.returns-in_err-found-clause-redraws
returns-in_err-found-clause-redraws g c few =
    let w = g.L.WaitingList in
    let rule = g.C.Cost in
    let cost = c.args.cost.now in
    let st = c.args.driven.now in
    let fault = c.in_err-found.field-0.0 in
    let of_driven : c.in_ok-opens.opens.driven.now ≡ st = search rules in
    let asked = c.new-redraw.ensures ∙ ap (λ (st : State). question (rule.start cost) (rule.next cost) st) of_driven in
    let course = subst (λ (q : Question). Searches w.nodes w.moves q (w.capacity c.args.list.now) c.args.budget (Err fault) c.args.list.now c.search.new.list) asked c.in_err-found.ensures.course in
    let e = err_from_is_err_and c.from_residual-in_err-found.result c.from_residual-in_err-found.ensures.1 in
    redraws_of w.nodes w.moves (rule.start cost) (rule.next cost) st (w.capacity c.args.list.now) c.args.budget (Err fault) c.args.list.now c.search.new.list course c.from_residual-in_err-found.result (e.1 ∙ ap (λ f. Err f) e.2)

pub returns-clause-redraws : goal.returns-clause-redraws
returns-clause-redraws g c few =
    let w = g.L.WaitingList in
    let rule = g.C.Cost in
    let cost = c.args.cost.now in
    let st = c.args.driven.now in
    let found = c.in_ok-found.found in
    let of_driven : c.in_ok-opens.opens.driven.now ≡ st = search rules in
    let asked = c.new-redraw.ensures ∙ ap (λ (st : State). question (rule.start cost) (rule.next cost) st) of_driven in
    let course = subst (λ (q : Question). Searches w.nodes w.moves q (w.capacity c.args.list.now) c.args.budget (Ok found) c.args.list.now c.search.new.list) asked c.in_ok-found.ensures.course in
    redraws_of w.nodes w.moves (rule.start cost) (rule.next cost) st (w.capacity c.args.list.now) c.args.budget (Ok found) c.args.list.now c.search.new.list course _ (ap (λ os. Ok (record { cost = found.cost; taken = found.taken; orders = os })) (c.complete.ensures ∙ ap (λ (st : State). orders_of_word st found.turned) of_driven))

-- what the laws of redrawing ask of a state
can : (g : given.Over) (c : goal.After-complete g) → CanRedraw c.args.driven.now
can g c =
    let st = c.args.driven.now in
    let opens = c.in_ok-opens.opens in
    let of_driven : opens.driven.now ≡ st = search rules in
    record {
      sound = c.new.ensures.sound;
      few = omega (arith, opens.few, ap (λ (l : List ℕ). length l) opens.listed, ap (λ (st : State). length (open_meetings st)) of_driven);
    }

-- and of a cost
keeps : (g : given.Over) (c : goal.After-complete g) → IsCost (g.C.Cost.start c.args.cost.now) (g.C.Cost.next c.args.cost.now)
keeps g c =
    let laws = g.met.C.Cost in
    let cost = c.args.cost.now in
    record { later = laws.later cost; greater = laws.greater cost; fits = laws.fits cost }

pub returns-clause-best : goal.returns-clause-best
returns-clause-best g c =
    let start = g.C.Cost.start c.args.cost.now in
    let next = g.C.Cost.next c.args.cost.now in
    let st = c.args.driven.now in
    let redraws = returns-clause-redraws g c (can g c).few in
    let Best : Result Redrawn RedrawFault → Type 0 = λ r. IfOk r (λ r. IsBest start next st r.orders r.cost) in
    subst Best (sym redraws.answers) (c.redraws_stand.ensures.best start next st (keeps g c) (can g c) (g.L.WaitingList.capacity c.args.list.now) c.args.budget redraws.places)

pub returns-clause-same : goal.returns-clause-same
returns-clause-same g c =
    let start = g.C.Cost.start c.args.cost.now in
    let next = g.C.Cost.next c.args.cost.now in
    let st = c.args.driven.now in
    let redraws = returns-clause-redraws g c (can g c).few in
    let Same : Result Redrawn RedrawFault → Type 0 = λ r. IfOk r (λ r. OneCost start next st r.cost) in
    subst Same (sym redraws.answers) (c.redraws_stand.ensures.same start next st (keeps g c) (can g c) (g.L.WaitingList.capacity c.args.list.now) c.args.budget redraws.places)
