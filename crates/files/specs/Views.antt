-- What the code's values mean to the definitions.
use Rattle.std.specs.Prelude.{◌≡◌, ℕ, List, map, Ok, Err, vec_items, Result}
use Rattle.files.specs.declared.layout.FileFault.{FileFault}
use Rattle.files.specs.declared.layout.FileFault.TheVariants.{Torn, Memory}
use Rattle.files.specs.declared.plan.Stop.{Stop}
use Rattle.files.specs.declared.plan.Path as plan
use Rattle.files.specs.declared.plan.PlanFile.{PlanFile}
use Rattle.files.specs.Layout.{Layout}

abbrev pub same : {X : Type 0} → X → X
same x = x

-- the stops of a path, those of each path, and all that a plan file holds
abbrev pub path_of : plan.Path → List Stop
path_of p = vec_items p.stops

abbrev pub paths_of : List plan.Path → List (List Stop)
paths_of ps = map path_of ps

abbrev pub layout_of : PlanFile → Layout
layout_of f = record { paths = paths_of (vec_items f.paths); tables = vec_items f.tables }

-- The code's answer is the defined reading, unless memory was wanting.
abbrev pub Gives : {X Y : Type 0} → (X → Y) → Result X FileFault → Result Y ℕ → Type 0
Gives view (Ok x) d = d ≡ Ok (view x)
Gives view (Err (Torn p)) d = d ≡ Err p
Gives view (Err Memory) d = Unit {0}
