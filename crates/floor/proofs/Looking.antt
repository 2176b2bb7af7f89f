-- How far a stop's touches have been looked at.
use Rattle.std.proofs.Common.{◌≡◌, ℕ, zero, suc, ◌+◌, ◌<◌, ◌≤◌, max, List, [], ◌∷◌, ◌++◌, map, length, get_or, take, Some, None, Option, Bool, true, false, leb, cond, sym, refl, ap, ◌∙◌, subst, inl, inr, arith}
use Rattle.std.specs.List.{ContainsAt, flat_map}
use Rattle.std.specs.Option.{option_to_list}
use Rattle.std.proofs.ByRecursion.{All-append, has_append_left, has_append_right}
use Rattle.std.proofs.lemmas.Bool.{cases_lt, cond-true, cond-false, le-leb, lt-leb, leb-true, leb-false}
use Rattle.std.proofs.lemmas.Option.{same_Some}
use Rattle.std.proofs.lemmas.Grind.{flat_map-append}
use Rattle.std.proofs.lemmas.List.{take_all, take_more, append-nil}
use Rattle.meetings.specs.declared.meet.First.{First}
use Rattle.meetings.specs.declared.stays.At.{At}
use Rattle.traffic.specs.Scene.{Numbers, number, greatest}
use Rattle.floor.specs.declared.index.Touch.{Touch}
use Rattle.floor.specs.declared.scene.Scene.{Scene as Under}
use Rattle.floor.specs.declared.worklist.Worklist.{Worklist}
use Rattle.floor.specs.Latest.{IsLatest}
use Rattle.floor.specs.Positions.{IsSound}
use Rattle.floor.specs.Touches.{awaited_at, touched}
use Rattle.floor.specs.Under.{orders_under, scene_under, shuttles_under, touches_under}
use Rattle.floor.specs.Worklists.{ComesAfter, Going, Held, Looked, entry_of, known_in, own_in, progress_of, ticks_in}
use Rattle.floor.proofs.Entering.{known_there}
use Rattle.floor.proofs.Floors.{waits_of}
use Rattle.floor.proofs.Touching.{no_touch}

greatest-append : (e : Numbers) (l k : List At) → greatest (map (number e) (l ++ k)) ≡ max (greatest (map (number e) l)) (greatest (map (number e) k))
greatest-append e [] k = omega arith
greatest-append e (a ∷ l) k = let g = greatest-append e l k in omega (arith, g)

-- one more of a list
has_flat : {X Y : Type 0} (f : X → List Y) (xs : List X) (i : ℕ) (d : X) (y : Y) → i < length xs → ContainsAt (f (get_or xs i d)) y → ContainsAt (flat_map f xs) y
has_flat f [] i d y lt h = absurd (omega (arith, lt))
has_flat f (x ∷ xs) zero d y lt h = has_append_left (f x) (flat_map f xs) y h
has_flat f (x ∷ xs) (suc i) d y lt h = has_append_right (f x) (flat_map f xs) y (has_flat f xs i d y (omega (arith, lt)) h)

module _ (u : Under) (w : Worklist) (a : At) where
  abbrev ts : List Touch
  ts = touches_under u a

  abbrev orders : List (Option First)
  orders = orders_under u

  pub looked_more :
      (i m n : ℕ) (o : Option At) → i < length ts → Looked u w a i m → option_to_list o ≡ touched orders (get_or ts i no_touch)
      → IsLatest n m (known_in u w) (ticks_in u w) (option_to_list o) → Looked u w a (i + 1) n
  looked_more i m n o lt looked is h =
      let front = awaited_at orders (take i ts) in
      let here = touched orders (get_or ts i no_touch) in
      let h' = subst (IsLatest n m (known_in u w) (ticks_in u w)) is h in
      let more : awaited_at orders (take (i + 1) ts) ≡ front ++ here =
      ap (awaited_at orders) (take_more ts i no_touch lt) ∙ flat_map-append (touched orders) (take i ts) (get_or ts i no_touch ∷ []) ∙ ap (λ (l : List At). front ++ l) (append-nil here) in
      subst (IsLatest n (own_in u w a) (known_in u w) (ticks_in u w)) (sym more) (record {
        all = All-append _ front here looked.all h'.all;
        is = omega (arith, looked.is, h'.is, greatest-append (ticks_in u w) front here);
      })

  -- where nothing is waited for, and where what is waited for is known
  pub latest_none : (m : ℕ) (o : Option At) → o ≡ None → IsLatest m m (known_in u w) (ticks_in u w) (option_to_list o)
  latest_none m o e = subst (λ p. IsLatest m m (known_in u w) (ticks_in u w) (option_to_list p)) (sym e) (record { all = tt; is = omega arith })

  pub latest_one : (m t : ℕ) (o : Option At) (b : At) → o ≡ Some b → b.stop < known_in u w b.shuttle → t ≡ number (ticks_in u w) b → IsLatest (max m t) m (known_in u w) (ticks_in u w) (option_to_list o)
  latest_one m t o b e lt is = subst (λ p. IsLatest (max m t) m (known_in u w) (ticks_in u w) (option_to_list p)) (sym e) (record { all = (lt, tt); is = omega (arith, is) })

  module _ (sound : IsSound u.floor.now) where
    pub looked_all : (i n : ℕ) → length ts ≤ i → Looked u w a i n → ComesAfter u w a n
    looked_all i n le looked =
        subst (IsLatest n (own_in u w a) (known_in u w) (ticks_in u w)) (ap (awaited_at orders) (take_all i ts le) ∙ waits_of u.floor.now sound orders a) looked

    pub held_at : (i : ℕ) (o : Option At) (b : At) → i < length ts → option_to_list o ≡ touched orders (get_or ts i no_touch) → o ≡ Some b → b.shuttle < shuttles_under u → known_in u w b.shuttle ≤ b.stop → Held u w a b
    held_at i o b lt is e there unknown =
        let here : touched orders (get_or ts i no_touch) ≡ b ∷ [] = sym is ∙ ap option_to_list e in
        record {
          shuttle = there;
          unknown = unknown;
          waits = subst (λ l. ContainsAt l b) (waits_of u.floor.now sound orders a) (has_flat (touched orders) ts i no_touch b lt (subst (λ l. ContainsAt l b) (sym here) (0, omega arith, λ d. refl)));
        }

-- the tick that is kept for a known stop
pub kept_tick : (u : Under) (w : Worklist) → Going u w → (b : At) → b.shuttle < shuttles_under u → (entry_of w b).tick ≡ number (ticks_in u w) b
kept_tick u w g b lt = elim (cases_lt ((scene_under u).entered b.shuttle) b.stop) [
  | inl l ↦ sym (cond-false _ _ _ (lt-leb b.stop ((scene_under u).entered b.shuttle) l))
  | inr le ↦ g.past b.shuttle b.stop lt le ∙ sym (cond-true _ _ _ (le-leb b.stop ((scene_under u).entered b.shuttle) le))
]

-- the tick of a stop as the program reads it
module _ (u : Under) (w : Worklist) (g : Going u w) (b : At) (lt : b.shuttle < shuttles_under u) (r : Option ℕ) (is : r ≡ cond (leb b.stop (progress_of w b.shuttle).stop) (Some (entry_of w b).tick) None) where
  pub read_known : (t : ℕ) → r ≡ Some t → (b.stop < known_in u w b.shuttle) × (t ≡ number (ticks_in u w) b)
  read_known t e = go (leb b.stop (progress_of w b.shuttle).stop) refl (sym is ∙ e)
    where
      go : (k : Bool) → leb b.stop (progress_of w b.shuttle).stop ≡ k → cond k (Some (entry_of w b).tick) None ≡ Some t → (b.stop < known_in u w b.shuttle) × (t ≡ number (ticks_in u w) b)
      go true k q = (omega (arith, leb-true b.stop (progress_of w b.shuttle).stop k, known_there u w b.shuttle lt), sym (same_Some _ _ q) ∙ kept_tick u w g b lt)
      go false k q = cc

  pub read_unknown : r ≡ None → known_in u w b.shuttle ≤ b.stop
  read_unknown e = go (leb b.stop (progress_of w b.shuttle).stop) refl (sym is ∙ e)
    where
      go : (k : Bool) → leb b.stop (progress_of w b.shuttle).stop ≡ k → cond k (Some (entry_of w b).tick) None ≡ None → known_in u w b.shuttle ≤ b.stop
      go true k q = cc
      go false k q = omega (arith, leb-false b.stop (progress_of w b.shuttle).stop k, known_there u w b.shuttle lt)
