-- Entry ticks worked out by rounds of their rule.
use Rattle.std.specs.Prelude.{◌≡◌, ℕ, zero, suc, ◌<◌, ◌≤◌, Bool, ◌&&◌, ◌||◌, ◌==◌, nat_le, nat_lt, if◌then◌else◌, Some, None, Option}
use Rattle.std.specs.List.{range_with_len, list_all, AllByRecursion}
use Rattle.meetings.specs.declared.stays.At.{At}
use Rattle.traffic.specs.Safety.{left}
use Rattle.traffic.specs.Scene.{Scene, at, every, Numbers, rule}
use Rattle.traffic.specs.Sweep.{Timed}

-- whether there is a stop after a stop of a path, and it is unentered
abbrev pub is_ahead : Scene → ℕ → ℕ → Bool
is_ahead c s i = nat_le (c.entered s) i && nat_lt i (c.last s)

-- one round: the rule for unentered stops, and 0 for any other number
abbrev pub round : Scene → Numbers → Numbers
round c e s zero = 0
round c e s (suc i) = if is_ahead c s i then rule c e s i else 0

-- so many rounds, from 0 everywhere
abbrev pub rounds : ℕ → Scene → Numbers
rounds zero c s i = 0
rounds (suc n) c s i = round c (rounds n c) s i

-- whether a stop is one of its path
abbrev pub exists : Scene → At → Bool
exists c a = nat_le a.stop (c.last a.shuttle)

-- whether the stop after a stop is entered, or keeps the rule and waits only for stops that exist
abbrev pub is_settled : Scene → Numbers → ℕ → ℕ → Bool
is_settled c e s i = nat_lt i (c.entered s) || (e s (suc i) == rule c e s i && every (exists c) (c.waits (at s (suc i))))

-- on the paths of the first n shuttles
abbrev pub all_settled : Scene → ℕ → Numbers → Bool
all_settled c n e = list_all (λ s. list_all (is_settled c e s) (range_with_len 0 (c.last s))) (range_with_len 0 n)

-- The entry ticks of the first n shuttles: what comes of as many rounds as there are unentered stops and hold ticks left, if that keeps the rule; else there are none.
unfoldable pub entry_ticks : Scene → ℕ → Option Numbers
entry_ticks c n = let e = rounds (left c n) c in if all_settled c n e then Some e else None

-- The first n shuttles are all: every shuttle is on its path, any other has one stop at most, and no stop waits for another's.
pub record IsWithin (n : ℕ) (c : Scene) : Type 0 where
  pub on : (s : ℕ) → c.entered s ≤ c.last s
  pub none : (s : ℕ) → n ≤ s → c.last s ≡ 0
  pub awaited : (a : At) → AllByRecursion (λ b. b.shuttle < n) (c.waits a)

-- What is worked out keeps the rule, and every stop that an unentered stop waits for exists;
abbrev pub EntryTicksAreTimed : Type 0
EntryTicksAreTimed = (n : ℕ) (c : Scene) (e : Numbers) → IsWithin n c → entry_ticks c n ≡ Some e → Timed c e

-- where there is no stop it is 0;
abbrev pub NoStopHasNone : Type 0
NoStopHasNone = (n : ℕ) (c : Scene) (e : Numbers) → IsWithin n c → entry_ticks c n ≡ Some e → (s i : ℕ) → c.last s < i → e s i ≡ 0

-- it is worked out wherever there is such a thing, and is the same on every path;
abbrev pub TimedIsFound : Type 0
TimedIsFound =
    (n : ℕ) (c : Scene) (e : Numbers) → IsWithin n c → Timed c e → (f : Numbers) × (entry_ticks c n ≡ Some f) × ((s i : ℕ) → i ≤ c.last s → f s i ≡ e s i)

-- it is none exactly where there is no such thing, and the orders close a ring;
abbrev pub RingIsNone : Type 0
RingIsNone =
    (n : ℕ) (c : Scene) → IsWithin n c
    → (entry_ticks c n ≡ None → (e : Numbers) → Timed c e → ⊥)
    × (((e : Numbers) → Timed c e → ⊥) → entry_ticks c n ≡ None)

-- and no entry tick is later than there are unentered stops and hold ticks left.
abbrev pub NoneIsLater : Type 0
NoneIsLater = (n : ℕ) (c : Scene) (e : Numbers) → IsWithin n c → Timed c e → (s i : ℕ) → i ≤ c.last s → e s i ≤ left c n
