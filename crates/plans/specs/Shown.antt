-- What a plan shows of its fields.
use Rattle.std.specs.Prelude.{vec_items}
use Rattle.files.specs.Views.{paths_of}
use Rattle.plans.specs.declared.plan.Plan.TheInside.{Inside}
use Rattle.plans.specs.Kept.{OpenedPlan}

abbrev pub shown : Inside → OpenedPlan
shown a = record { paths = paths_of (vec_items a.paths); tables = vec_items a.tables; meetings = vec_items a.meetings }
