-- The laws of traffic.
use Rattle.std.specs.Prelude.{◌≡◌, ℕ, suc, ◌<◌, ◌≤◌, Bool, List}
use Rattle.std.specs.List.{ContainsAt, AllByRecursion}
use Rattle.meetings.specs.declared.stays.At.{At}
use Rattle.traffic.specs.Scene.{Scene, at, tick, ticks, Numbers, number, EntryTicks, NoRing, Ranks, OnPaths}
use Rattle.traffic.specs.Sweep.{Timed}

-- the same shuttles with other holds, and with other waits
abbrev pub with_holds : Scene → (ℕ → ℕ) → Scene
with_holds c hold = record { entered = c.entered; last = c.last; hold = hold; waits = c.waits }

abbrev pub with_waits : Scene → (At → List At) → Scene
with_waits c waits = record { entered = c.entered; last = c.last; hold = c.hold; waits = waits }

-- one says at least what the other says
abbrev pub Among : (At → List At) → (At → List At) → Type 0
Among fewer more = (a : At) → AllByRecursion (ContainsAt (more a)) (fewer a)

-- Where every stop waited for exists, entry ticks are unique;
abbrev pub EntryTicksAgree : Type 0
EntryTicksAgree = (c : Scene) (e f : Numbers) → Timed c e → Timed c f → (s i : ℕ) → i ≤ c.last s → e s i ≡ f s i

-- so it is in a scene on paths.
abbrev pub OnPathsAreTimed : Type 0
OnPathsAreTimed = (c : Scene) (e : Numbers) → OnPaths c → EntryTicks c e → Timed c e

-- Entry ticks rise along paths, and from each stop that is waited for.
pub record Rise (c : Scene) (e : Numbers) : Type 0 where
  pub along : (s i : ℕ) → c.entered s ≤ i → i < c.last s → e s i < e s (suc i)
  pub across : (s i : ℕ) → c.entered s ≤ i → i < c.last s → AllByRecursion (λ a. number e a < e s (suc i)) (c.waits (at s (suc i)))

abbrev pub EntryTicksRise : Type 0
EntryTicksRise = (c : Scene) (e : Numbers) → EntryTicks c e → Rise c e

-- They exist exactly when some ranking rises strictly along paths and waits.
abbrev pub RankedExactly : Type 0
RankedExactly = (c : Scene) → OnPaths c → (NoRing c → (ρ : Numbers) × Ranks c ρ) × ((ρ : Numbers) → Ranks c ρ → NoRing c)

-- Neither holds, nor ticks with any shuttles standing, nor leaving waits out make a ring.
abbrev pub HoldsMakeNoRing : Type 0
HoldsMakeNoRing = (c : Scene) (hold : ℕ → ℕ) → OnPaths c → NoRing c → NoRing (with_holds c hold)

abbrev pub TicksMakeNoRing : Type 0
TicksMakeNoRing = (c : Scene) (stands : ℕ → Bool) → OnPaths c → NoRing c → OnPaths (tick c stands) × NoRing (tick c stands)

abbrev pub FewerMakeNoRing : Type 0
FewerMakeNoRing = (c : Scene) (fewer : At → List At) → OnPaths c → Among fewer c.waits → NoRing c → NoRing (with_waits c fewer)

-- After n undisturbed ticks a shuttle has entered a stop exactly when its entry tick is at most n.
abbrev pub TicksAreEntryTicks : Type 0
TicksAreEntryTicks =
    (c : Scene) (e : Numbers) → OnPaths c → EntryTicks c e → (n s i : ℕ) → i ≤ c.last s
    → (i ≤ (ticks n c).entered s → e s i ≤ n) × (e s i ≤ n → i ≤ (ticks n c).entered s)

-- More waits never give a smaller entry tick.
abbrev pub MoreIsLater : Type 0
MoreIsLater =
    (c : Scene) (more : At → List At) (e f : Numbers) → Among c.waits more → EntryTicks c e → EntryTicks (with_waits c more) f
    → (s i : ℕ) → i ≤ c.last s → OnPaths (with_waits c more) → e s i ≤ f s i

-- Entry ticks that satisfy waits that were left out are unchanged when they are put in.
abbrev pub SatisfiedIsSame : Type 0
SatisfiedIsSame =
    (c : Scene) (more : At → List At) (e : Numbers) → Among c.waits more → EntryTicks c e
    → ((s i : ℕ) → c.entered s ≤ i → i < c.last s → AllByRecursion (λ b. number e b < e s (suc i)) (more (at s (suc i)))) → EntryTicks (with_waits c more) e
