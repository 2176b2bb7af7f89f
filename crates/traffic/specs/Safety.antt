-- The laws of safety and progress.
use Rattle.std.specs.Prelude.{◌≡◌, ℕ, suc, ◌+◌, ◌-◌, ◌<◌, ◌≤◌, Bool, true, false, ◌⊎◌, List, sum_by, ◌≢◌}
use Rattle.std.specs.List.{range_with_len, ContainsAt, AllByRecursion}
use Rattle.meetings.specs.declared.stays.At.{At}
use Rattle.traffic.specs.Laws.{with_waits}
use Rattle.traffic.specs.Scene.{Scene, at, moves, tick, nobody, NoRing, OnPaths}

-- a shuttle that is not named as standing, has no hold and a next stop, and all that this stop waits for was entered
pub record CanMove (c : Scene) (stands : ℕ → Bool) (s : ℕ) : Type 0 where
  pub free : stands s ≡ false
  pub hold : c.hold s ≡ 0
  pub short : c.entered s < c.last s
  pub ready : AllByRecursion (λ b. b.stop ≤ c.entered b.shuttle) (c.waits (at s (suc (c.entered s))))

-- Just such shuttles move.
abbrev pub MovesExactly : Type 0
MovesExactly = (c : Scene) (stands : ℕ → Bool) (s : ℕ) → (moves c stands s ≡ true → CanMove c stands s) × (CanMove c stands s → moves c stands s ≡ true)

-- Every stop that was entered waited until all that it waits for had been entered before the last tick. `before` has the stops as they were then.
pub record Waited (c : Scene) (before : ℕ → ℕ) : Type 0 where
  pub onward : (s : ℕ) → before s ≤ c.entered s
  pub kept : (s i : ℕ) → i ≤ c.entered s → AllByRecursion (λ b. b.stop ≤ before b.shuttle) (c.waits (at s i))

-- So it is after any tick.
abbrev pub TicksKeepWaits : Type 0
TicksKeepWaits = (c : Scene) (before : ℕ → ℕ) (stands : ℕ → Bool) → Waited c before → Waited (tick c stands) c.entered

-- And after a change of what stops wait for that leaves entered stops as they were.
abbrev pub ChangesKeepWaits : Type 0
ChangesKeepWaits =
    (c : Scene) (before : ℕ → ℕ) (waits : At → List At) → ((s i : ℕ) → i ≤ c.entered s → AllByRecursion (ContainsAt (c.waits (at s i))) (waits (at s i)))
    → Waited c before → Waited (with_waits c waits) before

-- at two stops of different shuttles, of the first n, in one place one waits for the stop that follows the other
abbrev pub Settled : Scene → ℕ → (At → ℕ) → Type 0
Settled c n place =
    (s r i j : ℕ) → s < n → r < n → (s ≢ r) → i ≤ c.last s → j ≤ c.last r → place (at s i) ≡ place (at r j)
    → ContainsAt (c.waits (at s i)) (at r (suc j)) ⊎ ContainsAt (c.waits (at r j)) (at s (suc i))

-- Then no two shuttles are in one place,
abbrev pub NoTwoInOnePlace : Type 0
NoTwoInOnePlace =
    (c : Scene) (n : ℕ) (before : ℕ → ℕ) (place : At → ℕ) → OnPaths c → Settled c n place → Waited c before
    → (s r : ℕ) → s < n → r < n → (s ≢ r) → place (at s (c.entered s)) ≢ place (at r (c.entered r))

-- and none entered at the last tick a place that another then left.
abbrev pub NoneFollows : Type 0
NoneFollows =
    (c : Scene) (n : ℕ) (before : ℕ → ℕ) (place : At → ℕ) → OnPaths c → Settled c n place → Waited c before
    → (s r : ℕ) → s < n → r < n → (s ≢ r) → before s < c.entered s → before r < c.entered r
    → place (at s (before s)) ≢ place (at r (c.entered r))

-- the unentered stops and hold ticks left, of the first n shuttles
abbrev pub left : Scene → ℕ → ℕ
left c n = sum_by (λ s. (c.last s - c.entered s) + c.hold s) (range_with_len 0 n)

-- No tick raises them.
abbrev pub TicksNeverRaise : Type 0
TicksNeverRaise = (c : Scene) (stands : ℕ → Bool) (n : ℕ) → left (tick c stands) n ≤ left c n

-- With no ring and somebody short of the last stop, an undisturbed tick makes them fall.
abbrev pub TicksMakeFall : Type 0
TicksMakeFall =
    (c : Scene) (n : ℕ) → OnPaths c → NoRing c → ((a : At) → AllByRecursion (λ b. b.shuttle < n) (c.waits a))
    → (s : ℕ) → s < n → c.entered s < c.last s → left (tick c nobody) n < left c n
