-- A floor that is lent with orders for its meetings.
use Rattle.std.specs.Prelude.{ℕ, List, length, Option}
use Rattle.files.specs.declared.plan.Stop.{Stop}
use Rattle.meetings.specs.declared.meet.First.{First}
use Rattle.meetings.specs.declared.stays.At.{At}
use Rattle.traffic.specs.Scene as traffic
use Rattle.floor.specs.declared.index.Touch.{Touch}
use Rattle.floor.specs.declared.scene.Scene.{Scene}
use Rattle.floor.specs.Passing.{orders_of}
use Rattle.floor.specs.Positions.{meetings_in, paths_in, scene_in}
use Rattle.floor.specs.Touches.{touches_at}

abbrev pub orders_under : Scene → List (Option First)
orders_under u = orders_of u.orders

abbrev pub scene_under : Scene → traffic.Scene
scene_under u = scene_in u.floor.now (orders_under u)

abbrev pub paths_under : Scene → List (List Stop)
paths_under u = paths_in u.floor.now

-- how many shuttles there are, and what a stop may wait for
abbrev pub shuttles_under : Scene → ℕ
shuttles_under u = length (paths_under u)

abbrev pub touches_under : Scene → At → List Touch
touches_under u a = touches_at (meetings_in u.floor.now) a
