-- The rules that paths keep: a first tick is 0, ticks rise strictly, and neighbouring stops differ in place.
use Rattle.std.specs.Prelude.{◌≡◌, ℕ, ◌-◌, ◌<◌, ◌≤◌, cond, ◌==◌, nat_le, Option, None, Some, List, [], length, ◌≢◌, slice_index_or}
use Rattle.files.specs.declared.plan.Stop.{Stop}
use Rattle.files.specs.declared.rules.PathFault.{PathFault}
use Rattle.files.specs.declared.rules.PathFault.TheVariants.{Start, Tick, Place}

abbrev pub stop_at : List Stop → ℕ → Stop
stop_at path i = slice_index_or path i (record { place = 0; tick = 0 })

abbrev pub path_at : List (List Stop) → ℕ → List Stop
path_at paths s = slice_index_or paths s []

-- stop i of a path keeps the rules
pub record Keeps (path : List Stop) (i : ℕ) : Type 0 where
  pub starts : i ≡ 0 → (stop_at path i).tick ≡ 0
  pub rises : 0 < i → (stop_at path (i - 1)).tick < (stop_at path i).tick
  pub differs : 0 < i → (stop_at path (i - 1)).place ≢ (stop_at path i).place

abbrev pub PathKeeps : List Stop → Type 0
PathKeeps path = (i : ℕ) → i < length path → Keeps path i

abbrev pub PathsKeep : List (List Stop) → Type 0
PathsKeep paths = (s : ℕ) → s < length paths → PathKeeps (path_at paths s)

-- the rule that a stop breaks behind the stop before it, if it breaks one
abbrev pub fault_of : ℕ → ℕ → Option Stop → Stop → Option PathFault
fault_of s i None here = cond (here.tick == 0) None (Some (Start s))
fault_of s i (Some last) here = cond (nat_le here.tick last.tick) (Some (Tick s i)) (cond (here.place == last.place) (Some (Place s i)) None)

-- the shuttle and the stop of an offence
abbrev pub offender : PathFault → ℕ
offender (Start s) = s
offender (Tick s i) = s
offender (Place s i) = s

abbrev pub offence : PathFault → ℕ
offence (Start s) = 0
offence (Tick s i) = i
offence (Place s i) = i

-- What an offence says of its path. A stop that breaks two rules is one whose tick does not rise.
abbrev pub Breaks : List Stop → PathFault → Type 0
Breaks path (Start s) = (stop_at path 0).tick ≡ 0 → ⊥
Breaks path (Tick s i) = (0 < i) × ((stop_at path i).tick ≤ (stop_at path (i - 1)).tick)
Breaks path (Place s i) = (0 < i) × ((stop_at path (i - 1)).tick < (stop_at path i).tick) × ((stop_at path (i - 1)).place ≡ (stop_at path i).place)

-- the first offence of the path of shuttle s
pub record PathBreaks (s : ℕ) (path : List Stop) (f : PathFault) : Type 0 where
  pub shuttle : offender f ≡ s
  pub within : offence f < length path
  pub broken : Breaks path f
  pub before : (i : ℕ) → i < offence f → Keeps path i

-- the first offence of all, in shuttle and stop order
pub record FirstOffence (paths : List (List Stop)) (f : PathFault) : Type 0 where
  pub within : offender f < length paths
  pub here : PathBreaks (offender f) (path_at paths (offender f)) f
  pub before : (s : ℕ) → s < offender f → PathKeeps (path_at paths s)
