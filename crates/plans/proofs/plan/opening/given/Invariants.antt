use Rattle.std.proofs.Common.{◌≡◌, take}
use Rattle.plans.proofs.plan.opening.given.Given as goal

abbrev pub invariant-loop-value : goal.invariant-loop-value
invariant-loop-value l = l.all.items ≡ take l.value-index l.values
