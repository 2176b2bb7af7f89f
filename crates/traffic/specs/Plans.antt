-- The scene of a plan: what stops wait for under orders, of which some may be left out.
use Rattle.std.specs.Prelude.{◌≡◌, ℕ, ◌-◌, ◌<◌, ◌≤◌, Bool, cond, ◌&&◌, List, [], ◌∷◌, ◌++◌, map, length, Some, None, Option, ◌==◌}
use Rattle.files.specs.declared.plan.Stop.{Stop}
use Rattle.files.specs.Rules.{stop_at, path_at, PathsKeep}
use Rattle.meetings.specs.declared.meet.First.{First}
use Rattle.meetings.specs.declared.meet.Meeting.{Meeting}
use Rattle.meetings.specs.declared.stays.At.{At}
use Rattle.meetings.specs.Collisions.{NoCollision}
use Rattle.meetings.specs.Laws.{stop_of}
use Rattle.meetings.specs.Meetings.{meetings}
use Rattle.orders.specs.declared.waits.Wait.{Wait}
use Rattle.orders.specs.Waits.{wait_under, firsts_of}
use Rattle.traffic.specs.Safety.{Waited, Settled}
use Rattle.traffic.specs.Scene.{Scene, Numbers, NoRing, Ranks, OnPaths}
use Rattle.traffic.specs.Ticks.{IsWithin}

abbrev pub is_same_stop : At → At → Bool
is_same_stop a b = a.shuttle == b.shuttle && a.stop == b.stop

-- what a stop waits for at a wait that may be another's
abbrev pub awaited_by : At → Wait → List At
awaited_by a w = cond (is_same_stop w.second a) (w.awaited ∷ []) []

-- at a meeting that may be left out
abbrev pub awaited_at : At → Meeting → Option First → List At
awaited_at a m None = []
awaited_at a m (Some f) = awaited_by a (wait_under m f)

-- at all meetings
abbrev pub awaits : List Meeting → List (Option First) → At → List At
awaits [] orders a = []
awaits (m ∷ ms) [] a = []
awaits (m ∷ ms) (o ∷ orders) a = awaited_at a m o ++ awaits ms orders a

-- orders that leave no meeting out
abbrev pub named : List First → List (Option First)
named fs = map (λ f. Some f) fs

abbrev pub scene_of : List (List Stop) → List (Option First) → (ℕ → ℕ) → (ℕ → ℕ) → Scene
scene_of ps orders entered hold = record { entered = entered; last = λ s. length (path_at ps s) - 1; hold = hold; waits = awaits (meetings ps) orders }

-- every shuttle at stop 0, no holds, and the plan's orders
abbrev pub fresh_scene : List (List Stop) → Scene
fresh_scene ps = scene_of ps (named (firsts_of (meetings ps))) (λ s. 0) (λ s. 0)

abbrev pub planned_ticks : List (List Stop) → Numbers
planned_ticks ps s i = (stop_at (path_at ps s) i).tick

-- Planned ticks rank the plan's own orders, so a fresh run has no ring; and no first stop waits for anything.
pub record FreshLaw (ps : List (List Stop)) : Type 0 where
  pub on_paths : OnPaths (fresh_scene ps)
  pub ranks : Ranks (fresh_scene ps) (planned_ticks ps)
  pub no_ring : NoRing (fresh_scene ps)
  pub waited : Waited (fresh_scene ps) (λ s. 0)

abbrev pub FreshRunsHaveNoRing : Type 0
FreshRunsHaveNoRing = (ps : List (List Stop)) → PathsKeep ps → NoCollision ps → FreshLaw ps

-- Orders that leave no meeting out settle every place that two shuttles share.
abbrev pub FullOrdersSettle : Type 0
FullOrdersSettle =
    (ps : List (List Stop)) (fs : List First) (entered hold : ℕ → ℕ) → length fs ≡ length (meetings ps)
    → ((s : ℕ) → s < length ps → 1 ≤ length (path_at ps s)) → Settled (scene_of ps (named fs) entered hold) (length ps) (λ a. (stop_of ps a).place)

-- The shuttles of a plan are all.
abbrev pub PlansAreWithin : Type 0
PlansAreWithin =
    (ps : List (List Stop)) (orders : List (Option First)) (entered hold : ℕ → ℕ) → ((s : ℕ) → entered s ≤ length (path_at ps s) - 1)
    → IsWithin (length ps) (scene_of ps orders entered hold)
