use Rattle.std.proofs.Common.{◌≡◌, ◌≤◌, ℕ, Some, None, Ok, Err, Option, Result, sym, refl, ap, ◌∙◌, subst, arith}
use Rattle.std.specs.Option.{ok_or, option_copied}
use Rattle.std.proofs.lemmas.Bool.{false≢true}
use Rattle.redraw.specs.declared.finder.TheConstants.{MOST_OPEN}
use Rattle.costs.specs.Laws.{IsCost}
use Rattle.redraw.specs.Faults.{refusal_of}
use Rattle.refusals.specs.declared.Refusal.{Refusal}
use Rattle.refusals.specs.declared.Refusal.TheVariants.{NoPlan, TooManyOpen, TooManyDrafts}
use Rattle.run.specs.State.{State}
use Rattle.dispatch.specs.declared.answers.Answer.{Answer}
use Rattle.dispatch.specs.Agreement.{Drafts, told, drafted_told}
use Rattle.dispatch.specs.Dispatch.{Dispatch, dispatch_of}
use Rattle.dispatch.specs.Lists.{list_rules}
use Rattle.dispatch.specs.Tally.{open_count}
use Rattle.dispatch.proofs.Doing.{err_told, many_open, all_given, may_search, draft_unplanned, draft_refused, draft_searched}
use Rattle.dispatch.proofs.dispatcher.Dispatcher.draft.Goals as goal

pub returns-in_err-driven-clause-drafts : goal.returns-in_err-driven-clause-drafts
returns-in_err-driven-clause-drafts g c =
    let m = g.met.C.Cost in
    let k = c.args.cost.now in
    let is : IsCost (g.C.Cost.start k) (g.C.Cost.next k) = record { later = m.later k; greater = m.greater k; fits = m.fits k } in
    let l = g.L.WaitingList in
    let rules = list_rules l.nodes l.moves l.capacity in
    let list = c.args.list.now in
    let old = c.args.self.now in
    let none : c.self.inside.run ≡ None = sym c.driven.ensures ∙ ap option_copied c.in_err-driven.ensures.ok_part in
    let planless : old ≡ None = sym c.self.view_is ∙ ap (λ (o : Option State). dispatch_of o c.self.inside.drafts c.self.inside.hand) none in
    let why = c.in_err-driven.field-0.0 in
    let given = c.in_err-driven.ensures.value ∙ ap (λ o. ok_or o NoPlan) c.in_err-driven.ensures.ok_part in
    let no_plan : why ≡ NoPlan = cc in
    let says = err_told drafted_told c.from_residual.result why c.from_residual.ensures.1 ∙ ap Err no_plan in
    subst (λ (r : Result Answer Refusal). Drafts rules (g.C.Cost.start k) (g.C.Cost.next k) c.args.budget r list list old old) (sym says)
    (draft_unplanned rules (g.C.Cost.start k) (g.C.Cost.next k) is c.args.budget list old planless)

pub returns-then-not-can_redraw-clause-drafts : goal.returns-then-not-can_redraw-clause-drafts
returns-then-not-can_redraw-clause-drafts g c =
    let m = g.met.C.Cost in
    let k = c.args.cost.now in
    let is : IsCost (g.C.Cost.start k) (g.C.Cost.next k) = record { later = m.later k; greater = m.greater k; fits = m.fits k } in
    let l = g.L.WaitingList in
    let rules = list_rules l.nodes l.moves l.capacity in
    let list = c.args.list.now in
    let st = c.in_ok-driven.driven.now in
    let d : Dispatch = record { state = st; drafts = c.self.inside.drafts; hand = c.self.inside.hand } in
    let run : c.self.inside.run ≡ Some st = sym c.driven.ensures ∙ ap option_copied c.in_ok-driven.ensures.ok_part in
    let old : c.args.self.now ≡ Some d = sym c.self.view_is ∙ ap (λ (o : Option State). dispatch_of o d.drafts d.hand) run in
    let many : open_count st ≤ MOST_OPEN → ⊥ = λ le. false≢true (c.if-not-can_redraw.ensures.1 le) in
    subst (λ (o : Option Dispatch). Drafts rules (g.C.Cost.start k) (g.C.Cost.next k) c.args.budget (Err TooManyOpen) list list o o) (sym old)
    (draft_refused rules (g.C.Cost.start k) (g.C.Cost.next k) is c.args.budget list d TooManyOpen (many_open st d.drafts many))

pub returns-then-self-ge-MOST_DRAFTS-clause-drafts :
    goal.returns-then-self-ge-MOST_DRAFTS-clause-drafts
returns-then-self-ge-MOST_DRAFTS-clause-drafts g c =
    let m = g.met.C.Cost in
    let k = c.args.cost.now in
    let is : IsCost (g.C.Cost.start k) (g.C.Cost.next k) = record { later = m.later k; greater = m.greater k; fits = m.fits k } in
    let l = g.L.WaitingList in
    let rules = list_rules l.nodes l.moves l.capacity in
    let list = c.args.list.now in
    let st = c.in_ok-driven.driven.now in
    let d : Dispatch = record { state = st; drafts = c.self.inside.drafts; hand = c.self.inside.hand } in
    let run : c.self.inside.run ≡ Some st = sym c.driven.ensures ∙ ap option_copied c.in_ok-driven.ensures.ok_part in
    let old : c.args.self.now ≡ Some d = sym c.self.view_is ∙ ap (λ (o : Option State). dispatch_of o d.drafts d.hand) run in
    let few = c.if-not-can_redraw.ensures.0 refl in
    subst (λ (o : Option Dispatch). Drafts rules (g.C.Cost.start k) (g.C.Cost.next k) c.args.budget (Err TooManyDrafts) list list o o) (sym old)
    (draft_refused rules (g.C.Cost.start k) (g.C.Cost.next k) is c.args.budget list d TooManyDrafts (all_given st d.drafts few c.if-self-ge-MOST_DRAFTS.true))

pub returns-in_err-redrawn-clause-drafts : goal.returns-in_err-redrawn-clause-drafts
returns-in_err-redrawn-clause-drafts g c =
    let m = g.met.C.Cost in
    let k = c.args.cost.now in
    let is : IsCost (g.C.Cost.start k) (g.C.Cost.next k) = record { later = m.later k; greater = m.greater k; fits = m.fits k } in
    let l = g.L.WaitingList in
    let rules = list_rules l.nodes l.moves l.capacity in
    let list = c.args.list.now in
    let after = c.find_orders.new.list in
    let st = c.in_ok-driven.driven.now in
    let d : Dispatch = record { state = st; drafts = c.self.inside.drafts; hand = c.self.inside.hand } in
    let run : c.self.inside.run ≡ Some st = sym c.driven.ensures ∙ ap option_copied c.in_ok-driven.ensures.ok_part in
    let old : c.args.self.now ≡ Some d = sym c.self.view_is ∙ ap (λ (o : Option State). dispatch_of o d.drafts d.hand) run in
    let few = c.if-not-can_redraw.ensures.0 refl in
    let fault = c.in_err-redrawn.field-0.0 in
    let says = err_told drafted_told c.from_residual-in_err-redrawn.result (refusal_of fault) c.from_residual-in_err-redrawn.ensures.1 in
    subst (λ (r : Result Answer Refusal). Drafts rules (g.C.Cost.start k) (g.C.Cost.next k) c.args.budget r list after c.args.self.now c.args.self.now) (sym says)
    (subst (λ (o : Option Dispatch). Drafts rules (g.C.Cost.start k) (g.C.Cost.next k) c.args.budget (Err (refusal_of fault)) list after o o) (sym old)
    (draft_searched rules (g.C.Cost.start k) (g.C.Cost.next k) is c.args.budget list d (Err fault) after (may_search st d.drafts few (omega (arith, c.if-self-ge-MOST_DRAFTS.false)))
    (c.in_err-redrawn.ensures.redraws few) (c.in_err-redrawn.ensures.empty few)))

pub returns-clause-drafts : goal.returns-clause-drafts
returns-clause-drafts g c =
    let m = g.met.C.Cost in
    let k = c.args.cost.now in
    let is : IsCost (g.C.Cost.start k) (g.C.Cost.next k) = record { later = m.later k; greater = m.greater k; fits = m.fits k } in
    let l = g.L.WaitingList in
    let rules = list_rules l.nodes l.moves l.capacity in
    let list = c.args.list.now in
    let after = c.find_orders.new.list in
    let st = c.in_ok-driven.driven.now in
    let d : Dispatch = record { state = st; drafts = c.self.inside.drafts; hand = c.self.inside.hand } in
    let run : c.self.inside.run ≡ Some st = sym c.driven.ensures ∙ ap option_copied c.in_ok-driven.ensures.ok_part in
    let old : c.args.self.now ≡ Some d = sym c.self.view_is ∙ ap (λ (o : Option State). dispatch_of o d.drafts d.hand) run in
    let few = c.if-not-can_redraw.ensures.0 refl in
    let ended = draft_searched rules (g.C.Cost.start k) (g.C.Cost.next k) is c.args.budget list d (Ok c.in_ok-redrawn.redrawn) after (may_search st d.drafts few (omega (arith, c.if-self-ge-MOST_DRAFTS.false)))
    (c.in_ok-redrawn.ensures.redraws few) (c.in_ok-redrawn.ensures.empty few) in
    rw (old, run, c.number-run.ensures) ended
