-- Collisions, by the paths alone: where a shuttle is at a tick, and when it enters and leaves a place.
use Rattle.std.specs.Prelude.{◌≡◌, ℕ, suc, ◌<◌, ◌≤◌, ◌⊎◌, List, length}
use Rattle.files.specs.declared.plan.Stop.{Stop}
use Rattle.files.specs.Rules.{stop_at, path_at}

-- At a tick a shuttle is in the place of the last stop that it has entered; it stands at its last stop for ever.
abbrev pub In : List Stop → ℕ → ℕ → Type 0
In path t p =
    (i : ℕ) × (i < length path) × ((stop_at path i).place ≡ p) × ((stop_at path i).tick ≤ t) × (suc i < length path → t < (stop_at path (suc i)).tick)

-- it enters a stop at the stop's tick
abbrev pub Enters : List Stop → ℕ → ℕ → Type 0
Enters path t p = (i : ℕ) × (i < length path) × ((stop_at path i).place ≡ p) × ((stop_at path i).tick ≡ t)

-- and leaves it on entering the next
abbrev pub Leaves : List Stop → ℕ → ℕ → Type 0
Leaves path t p = (i : ℕ) × (suc i < length path) × ((stop_at path i).place ≡ p) × ((stop_at path (suc i)).tick ≡ t)

-- Two paths collide at a place when both are in it at a tick, or one enters it at the tick at which the other leaves it.
abbrev pub CollideAt : List Stop → List Stop → ℕ → Type 0
CollideAt p q place =
    (t : ℕ)
    × ((In p t place × In q t place)
    ⊎ ((Enters p t place × Leaves q t place) ⊎ (Leaves p t place × Enters q t place)))

abbrev pub Collide : List Stop → List Stop → Type 0
Collide p q = (place : ℕ) × CollideAt p q place

abbrev pub SomeCollision : List (List Stop) → Type 0
SomeCollision ps = (s : ℕ) × (r : ℕ) × (s < r) × (r < length ps) × Collide (path_at ps s) (path_at ps r)

abbrev pub NoCollision : List (List Stop) → Type 0
NoCollision ps = (s r : ℕ) → s < r → r < length ps → Collide (path_at ps s) (path_at ps r) → ⊥
