-- What a sound position says of its shuttles and stops.
use Rattle.std.proofs.Common.{◌≡◌, ℕ, ◌<◌, ◌≤◌, List, [], length, Option, sym, ap, ◌∙◌, subst, inl, inr, arith}
use Rattle.std.specs.List.{AllByRecursion}
use Rattle.std.proofs.ByRecursion.{All-from_get_or, All-get_or, has_get_or}
use Rattle.std.proofs.lemmas.Bool.{cases_lt}
use Rattle.std.proofs.lemmas.List.{get_or_past}
use Rattle.files.specs.declared.plan.Stop.{Stop}
use Rattle.files.specs.Bytes.{PathFits}
use Rattle.files.specs.Rules.{path_at}
use Rattle.meetings.specs.declared.meet.First.{First}
use Rattle.meetings.specs.declared.meet.Meeting.{Meeting}
use Rattle.meetings.specs.declared.stays.At.{At}
use Rattle.meetings.specs.Laws.{Meets, MeetingsLaw}
use Rattle.meetings.specs.Meetings.{meetings}
use Rattle.plans.specs.Kept.{OpenedPlan, IsKept}
use Rattle.traffic.specs.Index.{no_meeting}
use Rattle.traffic.specs.Plans.{awaits}
use Rattle.floor.specs.declared.index.Touch.{Touch}
use Rattle.floor.specs.declared.table.Shuttle.{Shuttle}
use Rattle.floor.specs.Positions.{Position, IsSound, scene_in}
use Rattle.floor.specs.Shuttles.{fresh, stop_in, hold_in, CanStep}
use Rattle.floor.specs.Touches.{awaited_at, touches_at}
use Rattle.floor.proofs.Scenes.{placed_within}
use Rattle.floor.proofs.Touching.{touches_wait, touches_within}

-- all that is listed meets
pub all_meet : (p : OpenedPlan) → IsKept p → MeetingsLaw p.paths → AllByRecursion (Meets p.paths) p.meetings
all_meet p kept law =
    subst (AllByRecursion (Meets p.paths)) (sym kept.listed)
    (All-from_get_or (Meets p.paths) (meetings p.paths) no_meeting (λ j lt. law.sound _ (has_get_or (meetings p.paths) j no_meeting lt)))

module _ (p : Position) (sound : IsSound p) where
  abbrev ps : List (List Stop)
  ps = p.plan.paths

  pub few : length ps ≤ 32
  few = sound.kept.limits.shuttles

  pub count : length p.shuttles ≡ length ps
  count = sound.placed.count

  pub some : (s : ℕ) → s < length ps → 1 ≤ length (path_at ps s)
  some s lt = (All-get_or PathFits ps s [] lt sound.kept.limits.stops).0

  pub long : (s : ℕ) → s < length ps → length (path_at ps s) ≤ 64
  long s lt = (All-get_or PathFits ps s [] lt sound.kept.limits.stops).1

  pub on : (s : ℕ) → s < length ps → stop_in p.shuttles s < length (path_at ps s)
  on s lt = (sound.placed.each s lt).on

  pub short : (s : ℕ) → s < length ps → hold_in p.shuttles s ≤ 4095
  short s lt = (sound.placed.each s lt).short

  pub within : (orders : List (Option First)) (s : ℕ) → (scene_in p orders).entered s ≤ (scene_in p orders).last s
  within orders s = placed_within ps orders p.shuttles sound.placed s

  pub low : (s : ℕ) → stop_in p.shuttles s < 64
  low s = elim (cases_lt s (length ps)) [
    | inl l ↦ omega (arith, on s l, long s l)
    | inr g ↦ omega (arith, ap (λ (x : Shuttle). x.stop) (get_or_past p.shuttles s fresh (omega (arith, g, count))))
  ]

  pub can_step : CanStep p.shuttles
  can_step = All-from_get_or (λ (x : Shuttle). x.stop < 65536) p.shuttles fresh (λ s _. omega (arith, low s))

  -- what a stop waits for, by its touches
  pub waits_of : (orders : List (Option First)) (a : At) → awaited_at orders (touches_at p.plan.meetings a) ≡ (scene_in p orders).waits a
  waits_of orders a = touches_wait orders a p.plan.meetings ps sound.meet ∙ ap (λ (l : List Meeting). awaits l orders a) sound.kept.listed

  pub touches_are : (a : At) → AllByRecursion (λ (t : Touch). t.shuttle < length ps) (touches_at p.plan.meetings a)
  touches_are a = touches_within a p.plan.meetings ps sound.meet
