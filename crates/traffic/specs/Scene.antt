-- Traffic at a tick: how far each shuttle has come, its hold, and what each stop waits for.
use Rattle.std.specs.Prelude.{◌≡◌, ℕ, zero, suc, ◌+◌, ◌-◌, ◌<◌, ◌≤◌, max, Bool, true, false, cond, not, ◌&&◌, List, [], ◌∷◌, map, ◌==◌, nat_le, nat_lt}
use Rattle.std.specs.List.{AllByRecursion}
use Rattle.meetings.specs.declared.stays.At.{At}

-- the last stop entered, the last stop of the path, the hold, and the stops that a stop waits for
pub record Scene : Type 0 where
  pub entered : ℕ → ℕ
  pub last : ℕ → ℕ
  pub hold : ℕ → ℕ
  pub waits : At → List At

abbrev pub at : ℕ → ℕ → At
at s i = record { shuttle = s; stop = i }

-- a stop that its shuttle has entered
abbrev pub done : Scene → At → Bool
done c a = nat_le a.stop (c.entered a.shuttle)

abbrev pub every : {X : Type 0} → (X → Bool) → List X → Bool
every p [] = true
every p (x ∷ xs) = p x && every p xs

-- A shuttle enters its next stop if it is not named as standing, has no hold and a next stop, and all that the stop waits for was entered earlier.
abbrev pub moves : Scene → (ℕ → Bool) → ℕ → Bool
moves c stands s =
    not (stands s) && (c.hold s == 0 && (nat_lt (c.entered s) (c.last s) && every (done c) (c.waits (at s (suc (c.entered s))))))

-- One tick: all move together, and a hold above 0 falls by one.
abbrev pub tick : Scene → (ℕ → Bool) → Scene
tick c stands = record {
  entered = λ s. c.entered s + cond (moves c stands s) 1 0;
  last = c.last;
  hold = λ s. c.hold s - 1;
  waits = c.waits;
}

-- an undisturbed tick names no shuttle as standing
abbrev pub nobody : ℕ → Bool
nobody s = false

abbrev pub ticks : ℕ → Scene → Scene
ticks zero c = c
ticks (suc n) c = ticks n (tick c nobody)

-- a number for each stop
abbrev pub Numbers : Type 0
Numbers = ℕ → ℕ → ℕ

abbrev pub number : Numbers → At → ℕ
number e a = e a.shuttle a.stop

-- the greatest of a list, 0 of none
abbrev pub greatest : List ℕ → ℕ
greatest [] = 0
greatest (x ∷ xs) = max x (greatest xs)

-- the path's previous entry tick, with the hold added if the stop is the shuttle's next
abbrev pub own : Scene → Numbers → ℕ → ℕ → ℕ
own c e s i = e s i + cond (i == c.entered s) (c.hold s) 0

-- one more than the greatest of that and the entry ticks waited for
abbrev pub rule : Scene → Numbers → ℕ → ℕ → ℕ
rule c e s i = suc (max (own c e s i) (greatest (map (number e) (c.waits (at s (suc i))))))

-- Entry ticks count from now: 0 for entered stops, and by the rule for any other.
pub record EntryTicks (c : Scene) (e : Numbers) : Type 0 where
  pub past : (s i : ℕ) → i ≤ c.entered s → e s i ≡ 0
  pub ahead : (s i : ℕ) → c.entered s ≤ i → i < c.last s → e s (suc i) ≡ rule c e s i

-- The orders close a ring where there are no entry ticks.
abbrev pub NoRing : Scene → Type 0
NoRing c = (e : Numbers) × EntryTicks c e

-- a ranking rises strictly along paths, and from each unentered stop that is waited for
pub record Ranks (c : Scene) (ρ : Numbers) : Type 0 where
  pub along : (s i : ℕ) → c.entered s ≤ i → i < c.last s → ρ s i < ρ s (suc i)
  pub across : (s i : ℕ) → c.entered s ≤ i → i < c.last s → AllByRecursion (λ a. c.entered a.shuttle < a.stop → number ρ a < ρ s (suc i)) (c.waits (at s (suc i)))

-- every shuttle is on its path, and so is every stop waited for
pub record OnPaths (c : Scene) : Type 0 where
  pub within : (s : ℕ) → c.entered s ≤ c.last s
  pub awaited : (a : At) → AllByRecursion (λ b. b.stop ≤ c.last b.shuttle) (c.waits a)
