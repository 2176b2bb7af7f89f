-- After an undisturbed tick every entry tick is one less, down to 0; so n ticks bring a shuttle to the stops whose entry tick is at most n.
use Rattle.std.proofs.Common.{◌≡◌, ℕ, zero, suc, ◌+◌, ◌-◌, ◌<◌, ◌≤◌, Bool, true, false, cond, eqb, List, [], ◌∷◌, map, sym, refl, ◌∙◌, subst, arith}
use native.Mathlib.Decide.{dec_le}
use Rattle.std.specs.List.{AllByRecursion}
use Rattle.std.proofs.lemmas.Bool.{both_ways}
use Rattle.std.proofs.lemmas.Bool.Decides.{nat_tests}
use Rattle.meetings.specs.declared.stays.At.{At}
use Rattle.traffic.specs.Laws.{TicksAreEntryTicks}
use Rattle.traffic.specs.Scene.{Scene, at, moves, tick, nobody, Numbers, number, greatest, own, rule, EntryTicks, OnPaths}
use Rattle.traffic.proofs.Ranking.{moved, moves_from, tick_within}

-- every number one less, down to 0
abbrev pub less : Numbers → Numbers
less e s i = e s i - 1

greatest-less : (e : Numbers) (l : List At) → greatest (map (number (less e)) l) ≡ greatest (map (number e) l) - 1
greatest-less e [] = refl
greatest-less e (a ∷ l) = let h = greatest-less e l in omega arith

module _ (c : Scene) (e : Numbers) (on : OnPaths c) (ee : EntryTicks c e) where
  -- a stop on a path has entry tick 0 exactly when it was entered
  pub zero_done : (s i : ℕ) → i ≤ c.last s → e s i ≡ 0 → i ≤ c.entered s
  zero_done s zero b z = omega arith
  zero_done s (suc i) b z = elim (dec_le (suc i) (c.entered s)) [ yes p ↦ p | no q ↦ (let r : e s (suc i) ≡ rule c e s i = ee.ahead s i (omega arith) (omega arith) in absurd (omega arith)) ]

  all_done : (l : List At) → AllByRecursion (λ a. a.stop ≤ c.last a.shuttle) l → greatest (map (number e) l) ≡ 0 → AllByRecursion (λ a. a.stop ≤ c.entered a.shuttle) l
  all_done [] w z = tt
  all_done (a ∷ l) w z = (zero_done a.shuttle a.stop w.0 (omega arith), all_done l w.1 (omega arith))

  done_all : (l : List At) → AllByRecursion (λ a. a.stop ≤ c.entered a.shuttle) l → greatest (map (number e) l) ≡ 0
  done_all [] h = refl
  done_all (a ∷ l) h =
      let x : e a.shuttle a.stop ≡ 0 = ee.past a.shuttle a.stop h.0 in
      let y = done_all l h.1 in
      omega arith

  -- a shuttle moves exactly when the entry tick of its next stop is 1
  pub moves_one : (s : ℕ) → moves c nobody s ≡ true → e s (suc (c.entered s)) ≡ 1
  moves_one s m =
      let h = moved c nobody s m in
      let r : e s (suc (c.entered s)) ≡ rule c e s (c.entered s) = ee.ahead s (c.entered s) (omega arith) h.short in
      let z : e s (c.entered s) ≡ 0 = ee.past s (c.entered s) (omega arith) in
      let k = h.hold in
      let g : greatest (map (number e) (c.waits (at s (suc (c.entered s))))) ≡ 0 = done_all _ h.ready in
      let o : own c e s (c.entered s) ≡ 0 = grind (arith, nat_tests) in
      omega arith

  pub one_moves : (s : ℕ) → c.entered s < c.last s → e s (suc (c.entered s)) ≡ 1 → moves c nobody s ≡ true
  one_moves s lt one =
      let r : e s (suc (c.entered s)) ≡ rule c e s (c.entered s) = ee.ahead s (c.entered s) (omega arith) lt in
      let o : c.hold s ≤ own c e s (c.entered s) = grind (arith, nat_tests) in
      moves_from c nobody s (record { free = refl; hold = omega arith; short = lt; ready = all_done _ (on.awaited (at s (suc (c.entered s)))) (omega arith) })

  -- the own path's part is one less too
  own_plain : (s i : ℕ) (k : ℕ) (b : Bool) → k ≡ 0 → e s i - 1 + cond b k 0 ≡ e s i - 1
  own_plain s i k true z = omega arith
  own_plain s i k false z = omega arith

  own-less : (b : Bool) (s i : ℕ) → moves c nobody s ≡ b → c.entered s + cond b 1 0 ≤ i → own (tick c nobody) (less e) s i ≡ own c e s i - 1
  own-less true s i m h =
      let n : eqb i (c.entered s) ≡ false = grind (arith, nat_tests) in
      let z : c.hold s - 1 ≡ 0 = (let y = (moved c nobody s m).hold in omega arith) in
      own_plain s i (c.hold s - 1) (eqb i ((tick c nobody).entered s)) z ∙ sym (rw n (omega arith))
  own-less false s i m h = rw m (same i (eqb i (c.entered s)) refl)
    where
      same : (i : ℕ) (b : Bool) → eqb i (c.entered s) ≡ b → e s i - 1 + cond (eqb i (c.entered s + 0)) (c.hold s - 1) 0 ≡ e s i + cond (eqb i (c.entered s)) (c.hold s) 0 - 1
      same i true t =
          let q : i ≡ c.entered s = grind (arith, nat_tests) in
          let z : e s i ≡ 0 = ee.past s i (omega arith) in
          let t' : eqb i (c.entered s + 0) ≡ true = grind (arith, nat_tests) in
          rw (t, t', z) (omega arith)
      same i false t =
          let t' : eqb i (c.entered s + 0) ≡ false = grind (arith, nat_tests) in
          rw (t, t') (omega arith)

  -- a stop that is not entered by this tick has an entry tick above 1
  above : (b : Bool) (s i : ℕ) → moves c nobody s ≡ b → c.entered s + cond b 1 0 ≤ i → i < c.last s → 1 < e s (suc i)
  above b s i m h lt = elim (dec_le (e s (suc i)) 1) [ yes p ↦ absurd (low b m h p) | no q ↦ omega arith ]
    where
      low : (b : Bool) → moves c nobody s ≡ b → c.entered s + cond b 1 0 ≤ i → e s (suc i) ≤ 1 → ⊥
      low true m h p =
          let r : e s (suc i) ≡ rule c e s i = ee.ahead s i (omega arith) lt in
          let z : e s i ≡ 0 = omega arith in
          let w = zero_done s i (omega arith) z in
          omega arith
      low false m h p =
          let r : e s (suc i) ≡ rule c e s i = ee.ahead s i (omega arith) lt in
          let z : e s i ≡ 0 = omega arith in
          let w : i ≤ c.entered s = zero_done s i (omega arith) z in
          let q : i ≡ c.entered s = omega arith in
          let one : e s (suc (c.entered s)) ≡ 1 = (let y : e s (suc i) ≡ 1 = omega arith in subst (λ k. e s (suc k) ≡ 1) q y) in
          both_ways _ m (one_moves s (omega arith) one)

  past_less : (b : Bool) (s i : ℕ) → moves c nobody s ≡ b → i ≤ c.entered s + cond b 1 0 → e s i - 1 ≡ 0
  past_less true s i m h = elim (dec_le i (c.entered s)) [ yes p ↦ (let z = ee.past s i p in omega arith) | no q ↦ (let o : e s i ≡ 1 = subst (λ k. e s k ≡ 1) (omega arith) (moves_one s m) in omega arith) ]
  past_less false s i m h = let z = ee.past s i (omega arith) in omega arith

  -- the entry ticks after an undisturbed tick
  pub step : EntryTicks (tick c nobody) (less e)
  step = record {
    past = λ s i h. past_less (moves c nobody s) s i refl h;
    ahead = λ s i h lt.
        let r : e s (suc i) ≡ rule c e s i = ee.ahead s i (omega arith) lt in
        let o = own-less (moves c nobody s) s i refl h in
        let g = greatest-less e (c.waits (at s (suc i))) in
        let a = above (moves c nobody s) s i refl h lt in
        omega arith;
  }

pub ticks_are_entry_ticks : TicksAreEntryTicks
ticks_are_entry_ticks c e on ee zero s i w = (λ p. let z = ee.past s i p in omega arith, λ z. zero_done c e on ee s i w (omega arith))
ticks_are_entry_ticks c e on ee (suc n) s i w =
    let r = ticks_are_entry_ticks (tick c nobody) (less e) (tick_within c nobody on) (step c e on ee) n s i w in
    (λ p. let q = r.0 p in omega arith, λ q. r.1 (omega arith))
