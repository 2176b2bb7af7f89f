-- The laws of shuttle records: over ticks and holds they are as their scenes.
use Rattle.std.specs.Prelude.{◌≡◌, ℕ, ◌<◌, ◌≤◌, false, List, length, None, Option}
use Rattle.files.specs.declared.plan.Stop.{Stop}
use Rattle.files.specs.Rules.{path_at}
use Rattle.meetings.specs.declared.meet.First.{First}
use Rattle.traffic.specs.Laws.{with_holds}
use Rattle.traffic.specs.Plans.{scene_of}
use Rattle.traffic.specs.Scene.{tick}
use Rattle.floor.specs.declared.table.Shuttle.{Shuttle}
use Rattle.floor.specs.Calls.{fault_of_hold, after_hold}
use Rattle.floor.specs.Scenes.{scene, movers, after_tick, word_of_moved, AllPlaced}
use Rattle.floor.specs.Shuttles.{all_fresh, hold_in}
use Rattle.floor.specs.Words.{bit}

-- A tick of the records is a tick of their scene.
abbrev pub TicksAreOfScenes : Type 0
TicksAreOfScenes =
    (ps : List (List Stop)) (orders : List (Option First)) (standing : ℕ) (xs : List Shuttle) → length xs ≡ length ps
    → scene ps orders (after_tick ps orders standing xs) ≡ tick (scene ps orders xs) (bit standing)

-- A new hold changes holds alone.
abbrev pub HoldsAreOfScenes : Type 0
HoldsAreOfScenes =
    (ps : List (List Stop)) (orders : List (Option First)) (xs : List Shuttle) (s ticks : ℕ)
    → scene ps orders (after_hold xs s ticks) ≡ with_holds (scene ps orders xs) (hold_in (after_hold xs s ticks))

-- Fresh shuttles are at stop 0, without holds.
abbrev pub FreshAreAtStart : Type 0
FreshAreAtStart = (ps : List (List Stop)) (orders : List (Option First)) (n : ℕ) → scene ps orders (all_fresh n) ≡ scene_of ps orders (λ s. 0) (λ s. 0)

-- Shuttles stay on their paths over ticks and over holds that are taken, and fresh ones are.
abbrev pub TicksKeepPlaced : Type 0
TicksKeepPlaced = (ps : List (List Stop)) (orders : List (Option First)) (standing : ℕ) (xs : List Shuttle) → AllPlaced ps xs → AllPlaced ps (after_tick ps orders standing xs)

abbrev pub HoldsKeepPlaced : Type 0
HoldsKeepPlaced = (ps : List (List Stop)) (xs : List Shuttle) (s ticks : ℕ) → fault_of_hold ps xs s ticks ≡ None → AllPlaced ps xs → AllPlaced ps (after_hold xs s ticks)

abbrev pub FreshArePlaced : Type 0
FreshArePlaced = (ps : List (List Stop)) → ((s : ℕ) → s < length ps → 1 ≤ length (path_at ps s)) → AllPlaced ps (all_fresh (length ps))

-- The word of those that moved names just them, and 0 names nobody.
abbrev pub WordsNameMovers : Type 0
WordsNameMovers =
    (ps : List (List Stop)) (orders : List (Option First)) (standing : ℕ) (xs : List Shuttle) (s : ℕ)
    → bit (word_of_moved ps orders standing xs) s ≡ movers ps orders standing xs s

abbrev pub ZeroNamesNobody : Type 0
ZeroNamesNobody = (s : ℕ) → bit 0 s ≡ false

pub record FloorLaws : Type 0 where
  pub ticks : TicksAreOfScenes
  pub holds : HoldsAreOfScenes
  pub fresh : FreshAreAtStart
  pub placed_ticks : TicksKeepPlaced
  pub placed_holds : HoldsKeepPlaced
  pub placed_fresh : FreshArePlaced
  pub word : WordsNameMovers
  pub nobody : ZeroNamesNobody
