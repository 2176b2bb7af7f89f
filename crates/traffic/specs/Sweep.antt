-- Entry ticks worked out so far: each shuttle's path is known up to a stop.
use Rattle.std.specs.Prelude.{◌≡◌, ℕ, suc, ◌+◌, ◌<◌, ◌≤◌, List}
use Rattle.std.specs.List.{AllByRecursion}
use Rattle.meetings.specs.declared.stays.At.{At}
use Rattle.traffic.specs.Scene.{Scene, at, Numbers, rule, EntryTicks}

-- every stop waited for has its number
abbrev pub Ready : (ℕ → ℕ) → List At → Type 0
Ready known l = AllByRecursion (λ b. b.stop < known b.shuttle) l

-- Each shuttle's stops below `known` have their entry ticks, and all that they wait for has too.
pub record Sofar (c : Scene) (known : ℕ → ℕ) (e : Numbers) : Type 0 where
  pub begun : (s : ℕ) → c.entered s < known s
  pub within : (s : ℕ) → known s ≤ suc (c.last s)
  pub past : (s i : ℕ) → i ≤ c.entered s → e s i ≡ 0
  pub ahead : (s i : ℕ) → c.entered s ≤ i → suc i < known s → e s (suc i) ≡ rule c e s i
  pub awaited : (s i : ℕ) → c.entered s ≤ i → suc i < known s → Ready known (c.waits (at s (suc i)))

-- entry ticks, where every stop that an unentered stop waits for exists
pub record Timed (c : Scene) (e : Numbers) : Type 0 where
  pub ticks : EntryTicks c e
  pub exist : (s i : ℕ) → c.entered s ≤ i → i < c.last s → AllByRecursion (λ b. b.stop ≤ c.last b.shuttle) (c.waits (at s (suc i)))

-- At first just the entered stops are known.
abbrev pub SweepsStart : Type 0
SweepsStart =
    (c : Scene) (known : ℕ → ℕ) (e : Numbers) → ((s : ℕ) → c.entered s ≤ c.last s) → ((s : ℕ) → known s ≡ suc (c.entered s))
    → ((s i : ℕ) → i ≤ c.entered s → e s i ≡ 0) → Sofar c known e

-- One shuttle's stop after stop i becomes known, of which all that it waits for is known; it gets its number by the rule.
pub record Advances (c : Scene) (s i : ℕ) (known known' : ℕ → ℕ) (e e' : Numbers) : Type 0 where
  pub here : known s ≡ suc i
  pub short : suc i ≤ c.last s
  pub ready : Ready known (c.waits (at s (suc i)))
  pub next : known' s ≡ suc (suc i)
  pub rest : (r : ℕ) → (r ≡ s → ⊥) → known' r ≡ known r
  pub keeps : (r j : ℕ) → j < known r → e' r j ≡ e r j
  pub made : e' s (suc i) ≡ rule c e s i

abbrev pub SweepsAdvance : Type 0
SweepsAdvance = (c : Scene) (s i : ℕ) (known known' : ℕ → ℕ) (e e' : Numbers) → Sofar c known e → Advances c s i known known' e e' → Sofar c known' e'

-- When all is known, those are the entry ticks.
abbrev pub SweepsEnd : Type 0
SweepsEnd = (c : Scene) (known : ℕ → ℕ) (e : Numbers) → Sofar c known e → ((s : ℕ) → c.last s < known s) → Timed c e

-- When something is not known and nobody can go on, there are none.
abbrev pub SweepsRing : Type 0
SweepsRing =
    (c : Scene) (known : ℕ → ℕ) (e : Numbers) (s : ℕ) → Sofar c known e → known s ≤ c.last s
    → ((r : ℕ) → known r ≤ c.last r → Ready known (c.waits (at r (known r))) → ⊥) → (f : Numbers) → Timed c f → ⊥

-- A new number is above the greatest so far by one and a hold at most.
abbrev pub SweepsBound : Type 0
SweepsBound =
    (c : Scene) (known : ℕ → ℕ) (e : Numbers) (s i most longest : ℕ) → c.hold s ≤ longest → ((r j : ℕ) → j < known r → e r j ≤ most)
    → i < known s → Ready known (c.waits (at s (suc i))) → rule c e s i ≤ most + longest + 1
