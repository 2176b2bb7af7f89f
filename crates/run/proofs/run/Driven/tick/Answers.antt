use Rattle.std.proofs.Common.{◌≡◌, List, Some, ap, ◌∙◌, subst}
use Rattle.meetings.specs.declared.meet.First.{First}
use Rattle.traffic.specs.Plans.{named}
use Rattle.floor.specs.Calls.{judged, unless, tick_fault}
use Rattle.floor.specs.Positions.{moved_at, ticked}
use Rattle.floor.specs.Refused.{from_floor}
use Rattle.run.specs.Calls.{tick_refusal, moved_on}
use Rattle.run.specs.Calls as calls
use Rattle.run.specs.Guards.{KeepsOn}
use Rattle.run.specs.State.{State, paths_on}
use Rattle.run.specs.Views.{state_in}
use Rattle.run.proofs.Carrying.{with_position, position_on, told, ticked_soundly, ticked_safely, ticked_state}
use Rattle.run.proofs.run.Driven.tick.Goals as goal
use Rattle.run.proofs.run.Driven.tick.Goals.{After-map_err}

-- what the floor leaves, under the orders in force
left : (c : After-map_err) → (let st = state_in c.self.inside in c.tick.new.self ≡ unless (tick_fault (paths_on st) c.args.standing) (ticked (named st.firsts) c.args.standing (position_on st)) (position_on st))
left c =
    let st = state_in c.self.inside in
    c.tick.ensures.after ∙ ap (λ (fs : List First). unless (tick_fault (paths_on st) c.args.standing) (ticked (named fs) c.args.standing (position_on st)) (position_on st)) c.as_slice.ensures.value

pub invariant_of-self : goal.invariant_of-self
invariant_of-self c = let a = (goal.at.invariant_of-self c).After-map_err in ticked_soundly a.runs_stand.ensures (state_in a.self.inside) a.self.invariant a.args.standing a.tick.new.self (left a)

pub returns-clause-took : goal.returns-clause-took
returns-clause-took c =
    let a = (goal.at.returns-clause-took c).After-map_err in
    let st = state_in a.self.inside in
    let word = ap (λ (fs : List First). moved_at (named fs) a.args.standing (position_on st)) a.as_slice.ensures.value in
    let P : State → Type 0 = λ old. calls.Took (tick_refusal a.args.standing old) (moved_on a.args.standing old) (Some (calls.ticked a.args.standing old)) a.map_err.result (Some old) (Some (with_position st a.tick.new.self)) in
    subst P a.self.view_is
    (record {
      result = told _ _ (λ f why e. e) _ (tick_fault (paths_on st) a.args.standing) a.tick.result a.map_err.result (a.tick.ensures.result ∙ ap (judged (tick_fault (paths_on st) a.args.standing)) word) a.map_err.ensures.cases;
      state = ticked_state st a.args.standing a.tick.new.self (left a);
    })

pub returns-clause-keeps : goal.returns-clause-keeps
returns-clause-keeps c =
    let a = (goal.at.returns-clause-keeps c).After-map_err in
    let st = state_in a.self.inside in
    subst (λ (old : State). KeepsOn a.args.standing old (with_position st a.tick.new.self)) a.self.view_is (ticked_safely a.runs_stand.ensures st a.self.invariant a.args.standing a.tick.new.self (left a))
