-- Entry ticks as they are worked out by the shuttles that can go on.
use Rattle.std.specs.Prelude.{◌≡◌, ℕ, suc, ◌+◌, ◌-◌, ◌*◌, ◌%◌, ◌^◌, ◌<◌, ◌≤◌, ◌⊎◌, if◌then◌else◌, List, [], length, map, sum_by, take, bit_or, nat_le, nat_lt, slice_index, slice_index_or, slice_set}
use Rattle.std.specs.Int.{bit_at}
use Rattle.std.specs.List.{AllByRecursion, ContainsAt, range_with_len}
use Rattle.files.specs.declared.plan.TheConstants.{MOST_SHUTTLES, MOST_STOPS}
use Rattle.meetings.specs.declared.stays.At.{At}
use Rattle.traffic.specs.Scene.{Numbers, at, own}
use Rattle.traffic.specs.Sweep.{Sofar, Timed}
use Rattle.floor.specs.declared.floor.calls.TheConstants.{LONGEST_HOLD}
use Rattle.floor.specs.declared.scene.Scene.{Scene as Under}
use Rattle.floor.specs.declared.table.Shuttle.{Shuttle}
use Rattle.floor.specs.declared.worklist.Block.{Block}
use Rattle.floor.specs.declared.worklist.Entry.{Entry}
use Rattle.floor.specs.declared.worklist.Progress.{Progress}
use Rattle.floor.specs.declared.worklist.Worklist.{Worklist}
use Rattle.floor.specs.Latest.{IsLatest}
use Rattle.floor.specs.Touches.{awaited_at}
use Rattle.floor.specs.Under.{orders_under, scene_under, shuttles_under, touches_under}

-- how far a shuttle has come, and what is kept for a stop
abbrev pub progress_in : List Progress → ℕ → Progress
progress_in ps s = slice_index_or ps s (record { stop = 0; seen = 0; latest = 0 })

abbrev pub entry_in : List (List Entry) → At → Entry
entry_in rows a = slice_index_or (slice_index_or rows a.shuttle []) a.stop (record { tick = 0; waiting = 0 })

abbrev pub progress_of : Worklist → ℕ → Progress
progress_of w s = progress_in w.progress s

abbrev pub entry_of : Worklist → At → Entry
entry_of w a = entry_in w.entries a

-- the ticks alone
abbrev pub rows_of : Worklist → List (List ℕ)
rows_of w = map (λ row. map (λ (x : Entry). x.tick) row) w.entries

-- there is room for any plan
pub record Shaped (w : Worklist) : Type 0 where
  pub rows : length w.entries ≡ MOST_SHUTTLES
  pub wide : AllByRecursion (λ (row : List Entry). length row ≡ MOST_STOPS) w.entries
  pub progress : length w.progress ≡ MOST_SHUTTLES

-- a shuttle's first stop without an entry tick; 1 for one that is not in the plan
abbrev pub known_in : Under → Worklist → ℕ → ℕ
known_in u w s = if nat_lt s (shuttles_under u) then suc (progress_of w s).stop else 1

abbrev pub next_in : Under → Worklist → ℕ → At
next_in u w s = at s (known_in u w s)

-- the entry ticks that are there
abbrev pub ticks_in : Under → Worklist → Numbers
ticks_in u w s i = if nat_le i ((scene_under u).entered s) then 0 else (entry_of w (at s i)).tick

-- how many stops have one
abbrev pub count_in : Under → Worklist → ℕ
count_in u w = sum_by (known_in u w) (range_with_len 0 (shuttles_under u))

-- what is known is right
pub record Going (u : Under) (w : Worklist) : Type 0 where
  pub shaped : Shaped w
  pub sofar : Sofar (scene_under u) (known_in u w) (ticks_in u w)
  pub past : (s i : ℕ) → s < shuttles_under u → i ≤ (scene_under u).entered s → (entry_of w (at s i)).tick ≡ 0
  pub small : (s i : ℕ) → i < known_in u w s → ticks_in u w s i ≤ suc LONGEST_HOLD * count_in u w

-- the entry tick of the stop before, with the hold added if the shuttle stands there
abbrev pub own_in : Under → Worklist → At → ℕ
own_in u w a = own (scene_under u) (ticks_in u w) a.shuttle (a.stop - 1)

-- the latest that a stop comes after, where so many of its touches have been looked at
abbrev pub Looked : Under → Worklist → At → ℕ → ℕ → Type 0
Looked u w a seen latest = IsLatest latest (own_in u w a) (known_in u w) (ticks_in u w) (awaited_at (orders_under u) (take seen (touches_under u a)))

-- where all of them have been
abbrev pub ComesAfter : Under → Worklist → At → ℕ → Type 0
ComesAfter u w a latest = IsLatest latest (own_in u w a) (known_in u w) (ticks_in u w) ((scene_under u).waits a)

-- a stop that waits for one without an entry tick
pub record Held (u : Under) (w : Worklist) (a b : At) : Type 0 where
  pub shuttle : b.shuttle < shuttles_under u
  pub unknown : known_in u w b.shuttle ≤ b.stop
  pub waits : ContainsAt ((scene_under u).waits a) b

-- with a note of the shuttle, if there is room for one
pub record Noted (u : Under) (w : Worklist) (s : ℕ) : Type 0 where
  pub by : At
  pub held : Held u w (next_in u w s) by
  pub bit : by.stop < MOST_STOPS → bit_at (entry_of w by).waiting s ≡ 1

-- a shuttle's next stop as it was left
abbrev pub LookedFor : Under → Worklist → ℕ → Type 0
LookedFor u w s = Looked u w (next_in u w s) (progress_of w s).seen (progress_of w s).latest

-- A shuttle is home; or it is known how far it has looked, and it may go on or has a note.
abbrev pub Cared : Under → Worklist → ℕ → Type 0
Cared u w s = ((scene_under u).last s < known_in u w s) ⊎ (LookedFor u w s × ((bit_at w.ready s ≡ 1) ⊎ Noted u w s))

-- the stops that may still get an entry tick, and then the shuttles that may go on
abbrev pub work : Under → Worklist → ℕ
work u w = (MOST_SHUTTLES * MOST_STOPS - count_in u w) * 2 ^ 32 + w.ready % 2 ^ 32

-- what is kept for one stop is replaced
abbrev pub with_entry : List (List Entry) → At → Entry → List (List Entry)
with_entry rows a x = slice_set rows a.shuttle (slice_set (slice_index_or rows a.shuttle []) a.stop x)

-- a stop gets its entry tick, and the shuttles that wait for it may go on
abbrev pub with_tick : Worklist → At → ℕ → Worklist
with_tick w a tick = record {
  entries = with_entry w.entries a (record { tick = tick; waiting = 0 });
  progress = slice_set w.progress a.shuttle (record { stop = a.stop; seen = (progress_of w a.shuttle).seen; latest = (progress_of w a.shuttle).latest });
  ready = bit_or w.ready (entry_of w a).waiting;
}

-- a shuttle is noted at the stop that it waits for, if there is room, and so is how far it has looked
abbrev pub with_note : Worklist → ℕ → Block → Worklist
with_note w s b = record {
  entries = if nat_lt b.awaited.stop MOST_STOPS then with_entry w.entries b.awaited (record { tick = (entry_of w b.awaited).tick; waiting = bit_or (entry_of w b.awaited).waiting (2 ^ s) }) else w.entries;
  progress = slice_set w.progress s (record { stop = (progress_of w s).stop; seen = b.seen; latest = b.latest });
  ready = w.ready;
}

-- where a shuttle stands at the beginning
abbrev pub begun : Shuttle → Progress
begun x = record { stop = x.stop; seen = 0; latest = x.hold }

-- a shuttle's entered stops have the entry tick 0, and it has looked at nothing; the rest stays
pub record Stands (s : ℕ) (x : Shuttle) (old new : Worklist) : Type 0 where
  pub shaped : Shaped new
  pub progress : new.progress ≡ slice_set old.progress s (begun x)
  pub entered : (i : ℕ) → i ≤ x.stop → (entry_of new (at s i)).tick ≡ 0
  pub others : (a : At) → (a.shuttle ≡ s → ⊥) → entry_of new a ≡ entry_of old a

-- the entry ticks that are there are all, and so are the arrivals
pub record Tells (u : Under) (w : Worklist) (arrivals : List ℕ) : Type 0 where
  pub timed : Timed (scene_under u) (ticks_in u w)
  pub kept : (s i : ℕ) → s < shuttles_under u → i ≤ (scene_under u).last s → (entry_of w (at s i)).tick ≡ ticks_in u w s i
  pub last : (s : ℕ) → s < shuttles_under u → slice_index arrivals s ≡ ticks_in u w s ((scene_under u).last s)
