-- Scenes of shuttle records, after ticks and with new holds.
use Rattle.std.proofs.Common.{◌≡◌, ℕ, zero, suc, ◌+◌, ◌<◌, ◌≤◌, Bool, true, false, List, [], ◌∷◌, length, set, Option, sym, refl, ap, ◌∙◌, subst, ap₂, arith}
use native.Mathlib.Decide.{dec_lt, ℕ_discrete}
use Rattle.std.proofs.lemmas.List.{get_or_past, get_or-set_same, get_or-set_other, get_or-replicate, length-set, length-replicate}
use Rattle.files.specs.declared.plan.Stop.{Stop}
use Rattle.files.specs.Rules.{path_at}
use Rattle.meetings.specs.declared.meet.First.{First}
use Rattle.traffic.specs.Laws.{with_holds}
use Rattle.traffic.specs.Plans.{scene_of}
use Rattle.traffic.specs.Safety.{MovesExactly}
use Rattle.traffic.specs.Scene.{tick}
use Rattle.floor.specs.declared.table.Shuttle.{Shuttle}
use Rattle.floor.specs.Scenes.{scene, movers, after_tick, word_of_moved, Placed, AllPlaced}
use Rattle.floor.specs.Shuttles.{fresh, all_fresh, shuttle_at, stop_in, hold_in, holding, step, stepped}
use Rattle.floor.specs.Words.{bit}
use Rattle.floor.proofs.Words.{word-bit}

stepped_from : (moves : ℕ → Bool) (r : ℕ) (xs : List Shuttle) (s : ℕ) → s < length xs → shuttle_at (stepped moves r xs) s ≡ step (moves (r + s)) (shuttle_at xs s)
stepped_from moves r [] s lt = absurd (omega arith)
stepped_from moves r (x ∷ xs) zero lt = ap (λ (k : ℕ). step (moves k) x) (omega arith)
stepped_from moves r (x ∷ xs) (suc s) lt = stepped_from moves (suc r) xs s (omega arith) ∙ ap (λ (k : ℕ). step (moves k) (shuttle_at xs s)) (omega arith)

pub stepped-at : (moves : ℕ → Bool) (xs : List Shuttle) (s : ℕ) → s < length xs → shuttle_at (stepped moves 0 xs) s ≡ step (moves s) (shuttle_at xs s)
stepped-at moves xs s lt = stepped_from moves 0 xs s lt ∙ ap (λ (k : ℕ). step (moves k) (shuttle_at xs s)) (omega arith)

same_from : (f g : ℕ → Bool) (r : ℕ) (xs : List Shuttle) → ((s : ℕ) → s < length xs → f (r + s) ≡ g (r + s)) → stepped f r xs ≡ stepped g r xs
same_from f g r [] h = refl
same_from f g r (x ∷ xs) h =
    ap₂ (λ (b : Bool) (ys : List Shuttle). step b x ∷ ys) (subst (λ (k : ℕ). f k ≡ g k) (omega arith) (h 0 (omega arith)))
    (same_from f g (suc r) xs (λ s lt. subst (λ (k : ℕ). f k ≡ g k) (omega arith) (h (suc s) (omega arith))))

pub stepped_same : (f g : ℕ → Bool) (xs : List Shuttle) → ((s : ℕ) → s < length xs → f s ≡ g s) → stepped f 0 xs ≡ stepped g 0 xs
stepped_same f g xs h = same_from f g 0 xs (λ s lt. subst (λ (k : ℕ). f k ≡ g k) (omega arith) (h s lt))

pub length-stepped : (f : ℕ → Bool) (r : ℕ) (xs : List Shuttle) → length (stepped f r xs) ≡ length xs
length-stepped f r [] = refl
length-stepped f r (x ∷ xs) = ap suc (length-stepped f (suc r) xs)

-- beyond the list every record is fresh
past_fresh : (xs : List Shuttle) (s : ℕ) → length xs ≤ s → shuttle_at xs s ≡ fresh
past_fresh xs s le = get_or_past xs s fresh le

-- nobody moves beyond the plan
pub past_stays : MovesExactly → (ps : List (List Stop)) (orders : List (Option First)) (standing : ℕ) (xs : List Shuttle) (s : ℕ) → length ps ≤ s → movers ps orders standing xs s ≡ false
past_stays exactly ps orders standing xs s le = go (movers ps orders standing xs s) refl
  where
    go : (b : Bool) → movers ps orders standing xs s ≡ b → b ≡ false
    go true m = absurd (omega (arith, ((exactly (scene ps orders xs) (bit standing) s).0 m).short, ap length (get_or_past ps s [] le)))
    go false m = refl

-- each record after a tick
pub after-at :
    MovesExactly → (ps : List (List Stop)) (orders : List (Option First)) (standing : ℕ) (xs : List Shuttle) → length xs ≡ length ps
    → (s : ℕ) → shuttle_at (after_tick ps orders standing xs) s ≡ step (movers ps orders standing xs s) (shuttle_at xs s)
after-at exactly ps orders standing xs count s =
    elim (dec_lt s (length xs)) [
      | yes d ↦ stepped-at (movers ps orders standing xs) xs s d
      | no d ↦ past_fresh (after_tick ps orders standing xs) s (omega (arith, length-stepped (movers ps orders standing xs) 0 xs)) ∙ sym (ap₂ (λ (b : Bool) (x : Shuttle). step b x) (past_stays exactly ps orders standing xs s (omega arith)) (past_fresh xs s (omega arith)))
    ]

pub tick-scene :
    MovesExactly → (ps : List (List Stop)) (orders : List (Option First)) (standing : ℕ) (xs : List Shuttle) → length xs ≡ length ps
    → scene ps orders (after_tick ps orders standing xs) ≡ tick (scene ps orders xs) (bit standing)
tick-scene exactly ps orders standing xs count =
    let after = after-at exactly ps orders standing xs count in
    λ i. record {
      entered = λ s. (after s i).stop;
      last = (scene ps orders xs).last;
      hold = λ s. (after s i).hold;
      waits = (scene ps orders xs).waits;
    }

pub word-moves :
    (ps : List (List Stop)) (orders : List (Option First)) (standing : ℕ) (xs : List Shuttle) → length xs ≡ length ps
    → stepped (bit (word_of_moved ps orders standing xs)) 0 xs ≡ after_tick ps orders standing xs
word-moves ps orders standing xs count =
    stepped_same (bit (word_of_moved ps orders standing xs)) (movers ps orders standing xs) xs (λ s lt. word-bit (movers ps orders standing xs) (length ps) s (omega arith))

pub placed_within : (ps : List (List Stop)) (orders : List (Option First)) (xs : List Shuttle) → AllPlaced ps xs → (s : ℕ) → (scene ps orders xs).entered s ≤ (scene ps orders xs).last s
placed_within ps orders xs placed s =
    elim (dec_lt s (length ps)) [
      | yes d ↦ omega (arith, (placed.each s d).on)
      | no d ↦ omega (arith, ap (λ (x : Shuttle). x.stop) (past_fresh xs s (omega (arith, placed.count))))
    ]

pub placed_tick : MovesExactly → (ps : List (List Stop)) (orders : List (Option First)) (standing : ℕ) (xs : List Shuttle) → AllPlaced ps xs → AllPlaced ps (after_tick ps orders standing xs)
placed_tick exactly ps orders standing xs placed = record {
  count = length-stepped (movers ps orders standing xs) 0 xs ∙ placed.count;
  each = λ s lt. subst (Placed (path_at ps s)) (sym (after-at exactly ps orders standing xs placed.count s)) (go s (placed.each s lt) (movers ps orders standing xs s) refl);
}
  where
    go : (s : ℕ) → Placed (path_at ps s) (shuttle_at xs s) → (b : Bool) → movers ps orders standing xs s ≡ b → Placed (path_at ps s) (step b (shuttle_at xs s))
    go s p true m =
        let k = (exactly (scene ps orders xs) (bit standing) s).0 m in
        record { on = omega (arith, k.short); short = omega (arith, p.short); home = λ e. omega (arith, k.hold) }
    go s p false m = record { on = omega (arith, p.on); short = omega (arith, p.short); home = λ e. omega (arith, p.home (omega arith)) }

pub placed_hold :
    (ps : List (List Stop)) (xs : List Shuttle) (s ticks : ℕ) → AllPlaced ps xs → s < length ps → suc (shuttle_at xs s).stop < length (path_at ps s) → ticks ≤ 4095
    → AllPlaced ps (set xs s (holding ticks (shuttle_at xs s)))
placed_hold ps xs s ticks placed lt ahead few = record {
  count = length-set xs s (holding ticks (shuttle_at xs s)) ∙ placed.count;
  each = λ r rn.
      elim (ℕ_discrete r s) [
        | yes e ↦ subst (λ (k : ℕ). Placed (path_at ps k) (shuttle_at (set xs s (holding ticks (shuttle_at xs s))) k)) (sym e) (subst (Placed (path_at ps s)) (sym (get_or-set_same xs s (holding ticks (shuttle_at xs s)) fresh (omega (arith, placed.count)))) here)
        | no n ↦ subst (Placed (path_at ps r)) (sym (get_or-set_other xs s r (holding ticks (shuttle_at xs s)) fresh n)) (placed.each r rn)
      ];
}
  where
    here : Placed (path_at ps s) (holding ticks (shuttle_at xs s))
    here = record { on = omega arith; short = few; home = λ e. absurd (omega arith) }

fresh_at : (n s : ℕ) → shuttle_at (all_fresh n) s ≡ fresh
fresh_at n s = elim (dec_lt s n) [ yes d ↦ get_or-replicate n s fresh fresh d | no d ↦ get_or_past (all_fresh n) s fresh (omega (arith, length-replicate n fresh)) ]

pub placed_fresh : (ps : List (List Stop)) → ((s : ℕ) → s < length ps → 1 ≤ length (path_at ps s)) → AllPlaced ps (all_fresh (length ps))
placed_fresh ps some = record {
  count = length-replicate (length ps) fresh;
  each = λ s lt. subst (Placed (path_at ps s)) (sym (fresh_at (length ps) s)) (record { on = some s lt; short = omega arith; home = λ e. refl });
}

pub fresh-scene : (ps : List (List Stop)) (orders : List (Option First)) (n : ℕ) → scene ps orders (all_fresh n) ≡ scene_of ps orders (λ s. 0) (λ s. 0)
fresh-scene ps orders n i = scene_of ps orders (λ s. (fresh_at n s i).stop) (λ s. (fresh_at n s i).hold)

-- a new hold leaves all stops as they were
hold_stops : (xs : List Shuttle) (s ticks r : ℕ) → stop_in (set xs s (holding ticks (shuttle_at xs s))) r ≡ stop_in xs r
hold_stops [] s ticks r = refl
hold_stops (x ∷ xs) zero ticks zero = refl
hold_stops (x ∷ xs) zero ticks (suc r) = refl
hold_stops (x ∷ xs) (suc s) ticks zero = refl
hold_stops (x ∷ xs) (suc s) ticks (suc r) = hold_stops xs s ticks r

pub hold_scene :
    (ps : List (List Stop)) (orders : List (Option First)) (xs : List Shuttle) (s ticks : ℕ)
    → scene ps orders (set xs s (holding ticks (shuttle_at xs s))) ≡ with_holds (scene ps orders xs) (hold_in (set xs s (holding ticks (shuttle_at xs s))))
hold_scene ps orders xs s ticks i = scene_of ps orders (λ r. hold_stops xs s ticks r i) (hold_in (set xs s (holding ticks (shuttle_at xs s))))
