use Rattle.std.proofs.Common.{◌≡◌, Some, sym, subst}
use Rattle.run.specs.Calls.{fresh_on}
use Rattle.run.specs.Sound.{RunsSoundly}
use Rattle.run.specs.Views.{state_in}
use Rattle.run.proofs.run.Driven.new.Goals as goal
use Rattle.run.proofs.run.Driven.new.Goals.{In_ok-floor}

-- what is driven is fresh on the plan
fresh : (c : In_ok-floor) → state_in (record { number = c.args.number; floor = c.in_ok-floor.floor; firsts = c.in_ok-firsts.firsts }) ≡ fresh_on c.args.number c.in_ok-plan.plan
fresh c =
    let floor = c.in_ok-floor.ensures in
    let firsts = c.in_ok-firsts.ensures in
    λ i. record { number = c.args.number; plan = (floor i).plan; shuttles = (floor i).shuttles; firsts = firsts i }

pub invariant_of-result : goal.invariant_of-result
invariant_of-result c =
    let plan = c.in_ok-plan.plan in
    subst RunsSoundly (sym (fresh ((goal.at.invariant_of-result c).In_ok-floor))) (0, c.runs_stand.ensures.fresh c.args.number plan c.in_ok-plan.ensures.value.1)

pub returns-clause-drives : goal.returns-clause-drives
returns-clause-drives c =
    let read = c.in_ok-plan.ensures in
    let same = fresh ((goal.at.returns-clause-drives c).In_ok-floor) in
    (c.in_ok-plan.plan, record { value = read.value; exact = read.exact; firsts = read.firsts; collision = read.collision }, λ i. Some (same i))
