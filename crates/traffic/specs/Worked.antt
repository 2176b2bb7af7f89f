-- Entry ticks of two plans, worked out by hand.
use Rattle.std.specs.Prelude.{◌≡◌, ℕ, List, [], ◌∷◌, ◌==◌, if◌then◌else◌, Some, None, Option}
use Rattle.std.specs.Option.{option_map}
use Rattle.files.specs.declared.plan.Stop.{Stop}
use Rattle.meetings.specs.declared.meet.First.{First}
use Rattle.meetings.specs.declared.meet.First.TheVariants.{Lower, Other}
use Rattle.traffic.specs.Plans.{named, scene_of}
use Rattle.traffic.specs.Scene.{Scene, Numbers}
use Rattle.traffic.specs.Ticks.{entry_ticks}

-- one meeting, at place 5
abbrev pub one_meeting : List (List Stop)
one_meeting =
    (record { place = 1; tick = 0 } ∷ record { place = 5; tick = 1 } ∷ record { place = 2; tick = 2 } ∷ [])
    ∷ (record { place = 3; tick = 0 } ∷ record { place = 5; tick = 3 } ∷ record { place = 4; tick = 4 } ∷ [])
    ∷ []

-- two meetings, at places 5 and 6, which the shuttles pass in opposite order
abbrev pub two_meetings : List (List Stop)
two_meetings =
    (record { place = 1; tick = 0 } ∷ record { place = 5; tick = 1 } ∷ record { place = 6; tick = 2 } ∷ record { place = 2; tick = 3 } ∷ [])
    ∷ (record { place = 3; tick = 0 } ∷ record { place = 6; tick = 5 } ∷ record { place = 5; tick = 6 } ∷ record { place = 4; tick = 7 } ∷ [])
    ∷ []

-- shuttle 1 stays at place 5
abbrev pub ends_there : List (List Stop)
ends_there =
    (record { place = 1; tick = 0 } ∷ record { place = 5; tick = 1 } ∷ record { place = 2; tick = 2 } ∷ [])
    ∷ (record { place = 3; tick = 0 } ∷ record { place = 5; tick = 3 } ∷ [])
    ∷ []

-- nobody has left the first stop, and shuttle 0 is held for 5 ticks
abbrev pub held : List (List Stop) → List First → Scene
held ps fs = scene_of ps (named fs) (λ s. 0) (λ s. if s == 0 then 5 else 0)

-- the entry ticks of two shuttles' last stops
abbrev pub both_last : List (List Stop) → ℕ → List First → Option (ℕ × ℕ)
both_last ps last fs = option_map (λ (e : Numbers). (e 0 last, e 1 last)) (entry_ticks (held ps fs) 2)

-- By the plan's order shuttle 1 waits; turned, it need not. Turned at one of two meetings alone there is a ring, and so there is where a stop waits for one that does not exist.
pub record WorkedOut : Type 0 where
  pub in_order : both_last one_meeting 2 (Lower ∷ []) ≡ Some (7, 9)
  pub turned : both_last one_meeting 2 (Other ∷ []) ≡ Some (7, 2)
  pub two_in_order : both_last two_meetings 3 (Lower ∷ Lower ∷ []) ≡ Some (8, 11)
  pub both_turned : both_last two_meetings 3 (Other ∷ Other ∷ []) ≡ Some (8, 3)
  pub nowhere : both_last ends_there 1 (Other ∷ []) ≡ None
  pub ring : both_last two_meetings 3 (Other ∷ Lower ∷ []) ≡ None
