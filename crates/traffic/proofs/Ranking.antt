-- Entry ticks exist exactly when there is a ranking; so what keeps a ranking makes no ring.
use Rattle.std.proofs.Common.{◌≡◌, ℕ, zero, suc, ◌+◌, ◌<◌, ◌≤◌, max, Bool, true, false, cond, not, ◌&&◌, eqb, ltb, leb, List, [], ◌∷◌, map, sym, refl, ◌∙◌, ap₂, arith}
use native.Mathlib.Decide.{dec_le}
use Rattle.std.specs.List.{ContainsAt, AllByRecursion}
use Rattle.std.proofs.ByRecursion.{All-weaker, all-has}
use Rattle.std.proofs.lemmas.Bool.{le-leb, lt-leb, lt-ltb, ltb-true, leb-true, eqb-true, eq-eqb, and_parts, and_from, not-true, not_from_false, cond-true, cond-false}
use Rattle.meetings.specs.declared.stays.At.{At}
use Rattle.traffic.proofs.Lists.{all_both}
use Rattle.traffic.specs.Laws.{with_holds, with_waits, EntryTicksRise, RankedExactly, HoldsMakeNoRing, TicksMakeNoRing, FewerMakeNoRing}
use Rattle.traffic.specs.Safety.{CanMove, MovesExactly}
use Rattle.traffic.specs.Scene.{Scene, at, every, done, moves, tick, Numbers, number, greatest, rule, EntryTicks, Ranks, OnPaths}

pub below_greatest : (e : Numbers) (l : List At) → AllByRecursion (λ a. number e a ≤ greatest (map (number e) l)) l
below_greatest e [] = tt
below_greatest e (a ∷ l) = (omega arith, All-weaker _ _ (λ b h. omega arith) l (below_greatest e l))

-- numbers that are the same of all stops in a list
pub list_same : (e f : Numbers) (l : List At) → AllByRecursion (λ a. number e a ≡ number f a) l → map (number e) l ≡ map (number f) l
list_same e f [] h = refl
list_same e f (a ∷ l) h = ap₂ (λ x (xs : List ℕ). x ∷ xs) h.0 (list_same e f l h.1)

pub entry_ticks_rise : EntryTicksRise
entry_ticks_rise c e ee = record {
  along = λ s i p q. let r : e s (suc i) ≡ rule c e s i = ee.ahead s i p q in omega arith;
  across = λ s i p q. let r : e s (suc i) ≡ rule c e s i = ee.ahead s i p q in All-weaker _ _ (λ a h. omega arith) (c.waits (at s (suc i))) (below_greatest e (c.waits (at s (suc i))));
}

-- so they are a ranking
ticks_rank : (c : Scene) (e : Numbers) → EntryTicks c e → Ranks c e
ticks_rank c e ee =
    let rise = entry_ticks_rise c e ee in
    record { along = rise.along; across = λ s i p q. All-weaker _ _ (λ a h _. h) (c.waits (at s (suc i))) (rise.across s i p q) }

-- entry ticks worked out to a depth
abbrev by : Scene → ℕ → Numbers
by c zero s i = 0
by c (suc n) s zero = 0
by c (suc n) s (suc i) = cond (leb (suc i) (c.entered s)) 0 (rule c (by c n) s i)

module _ (c : Scene) (ρ : Numbers) (on : OnPaths c) (ranks : Ranks c ρ) where
  by_past : (n s i : ℕ) → i ≤ c.entered s → by c n s i ≡ 0
  by_past zero s i p = refl
  by_past (suc n) s zero p = refl
  by_past (suc n) s (suc i) p = cond-true _ _ _ (le-leb (suc i) (c.entered s) p)

  by_ahead : (n s i : ℕ) → c.entered s ≤ i → by c (suc n) s (suc i) ≡ rule c (by c n) s i
  by_ahead n s i p = cond-false _ _ _ (lt-leb (suc i) (c.entered s) (omega arith))

  -- the rule gives the same where all that it looks at is the same
  rule-same :
      (e f : Numbers) (s i : ℕ) → c.entered s ≤ i → i < c.last s → ((t k : ℕ) → k ≤ c.last t → ρ t k < ρ s (suc i) → e t k ≡ f t k)
      → ((t k : ℕ) → k ≤ c.entered t → e t k ≡ f t k) → rule c e s i ≡ rule c f s i
  rule-same e f s i p q h z =
      let ws = c.waits (at s (suc i)) in
      let each : AllByRecursion (λ a. number e a ≡ number f a) ws = all_both _ _ _ (λ a w r. elim (dec_le a.stop (c.entered a.shuttle)) [ yes d ↦ z a.shuttle a.stop d | no n ↦ h a.shuttle a.stop w (r (omega arith)) ]) ws (on.awaited (at s (suc i))) (ranks.across s i p q) in
      ap₂ (λ x xs. suc (max (x + cond (eqb i (c.entered s)) (c.hold s) 0) (greatest xs))) (h s i (omega arith) (ranks.along s i p q)) (list_same e f ws each)

  by-same : (n m s i : ℕ) → ρ s i < n → ρ s i < m → i ≤ c.last s → by c n s i ≡ by c m s i
  by-same zero m s i p q w = absurd (omega arith)
  by-same (suc n) zero s i p q w = absurd (omega arith)
  by-same (suc n) (suc m) s zero p q w = refl
  by-same (suc n) (suc m) s (suc i) p q w =
      elim (dec_le (suc i) (c.entered s)) [
        | yes d ↦ by_past (suc n) s (suc i) d ∙ sym (by_past (suc m) s (suc i) d)
        | no d ↦ by_ahead n s i (omega arith) ∙ rule-same (by c n) (by c m) s i (omega arith) w (λ t k on-path less. by-same n m t k (omega arith) (omega arith) on-path) (λ t k d. by_past n t k d ∙ sym (by_past m t k d)) ∙ sym (by_ahead m s i (omega arith))
      ]

  rank_ticks : EntryTicks c (λ s i. by c (suc (ρ s i)) s i)
  rank_ticks = record {
    past = λ s i p. by_past (suc (ρ s i)) s i p;
    ahead = λ s i p q.
        by_ahead (ρ s (suc i)) s i p
        ∙ rule-same (by c (ρ s (suc i))) (λ t k. by c (suc (ρ t k)) t k) s i p q (λ t k on-path less. by-same (ρ s (suc i)) (suc (ρ t k)) t k less (omega arith) on-path) (λ t k d. by_past (ρ s (suc i)) t k d ∙ sym (by_past (suc (ρ t k)) t k d));
  }

pub ranked_exactly : RankedExactly
ranked_exactly c on = (λ r. (r.0, ticks_rank c r.0 r.1), λ ρ ranks. ((λ s i. by c (suc (ρ s i)) s i), rank_ticks c ρ on ranks))

pub holds_make_no_ring : HoldsMakeNoRing
holds_make_no_ring c hold on r =
    let k = ticks_rank c r.0 r.1 in
    (ranked_exactly (with_holds c hold) (record { within = on.within; awaited = on.awaited })).1 r.0 (record { along = k.along; across = k.across })

pub fewer_make_no_ring : FewerMakeNoRing
fewer_make_no_ring c fewer on among r =
    let k = ticks_rank c r.0 r.1 in
    let Less : ℕ → At → Type 0 = λ n a. c.entered a.shuttle < a.stop → number r.0 a < n in
    (ranked_exactly (with_waits c fewer) (record { within = on.within; awaited = λ a. All-weaker (ContainsAt (c.waits a)) _ (λ b h. all-has (λ b. b.stop ≤ c.last b.shuttle) (c.waits a) b (on.awaited a) h) (fewer a) (among a) })).1 r.0
    (record {
      along = k.along;
      across = λ s i p q. All-weaker (ContainsAt (c.waits (at s (suc i)))) _ (λ b h. all-has (Less (r.0 s (suc i))) (c.waits (at s (suc i))) b (k.across s i p q) h) (fewer (at s (suc i))) (among (at s (suc i)));
    })

pub every_done : (c : Scene) (l : List At) → every (done c) l ≡ true → AllByRecursion (λ b. b.stop ≤ c.entered b.shuttle) l
every_done c [] h = tt
every_done c (b ∷ l) h = let p = and_parts (done c b) (every (done c) l) h in (leb-true _ _ p.0, every_done c l p.1)

done_every : (c : Scene) (l : List At) → AllByRecursion (λ b. b.stop ≤ c.entered b.shuttle) l → every (done c) l ≡ true
done_every c [] h = refl
done_every c (b ∷ l) h = and_from _ _ (le-leb _ _ h.0) (done_every c l h.1)

pub moved : (c : Scene) (stands : ℕ → Bool) (s : ℕ) → moves c stands s ≡ true → CanMove c stands s
moved c stands s m =
    let ready = every (done c) (c.waits (at s (suc (c.entered s)))) in
    let short = ltb (c.entered s) (c.last s) in
    let a = and_parts (not (stands s)) (eqb (c.hold s) 0 && (short && ready)) m in
    let b = and_parts (eqb (c.hold s) 0) (short && ready) a.1 in
    let d = and_parts short ready b.1 in
    record { free = not-true _ a.0; hold = eqb-true _ _ b.0; short = ltb-true _ _ d.0; ready = every_done c (c.waits (at s (suc (c.entered s)))) d.1 }

pub moves_from : (c : Scene) (stands : ℕ → Bool) (s : ℕ) → CanMove c stands s → moves c stands s ≡ true
moves_from c stands s m = and_from _ _ (not_from_false _ m.free) (and_from _ _ (eq-eqb _ _ m.hold) (and_from _ _ (lt-ltb _ _ m.short) (done_every c _ m.ready)))

pub moves_exactly : MovesExactly
moves_exactly c stands s = (moved c stands s, moves_from c stands s)

pub tick_within : (c : Scene) (stands : ℕ → Bool) → OnPaths c → OnPaths (tick c stands)
tick_within c stands on = record { within = λ s. go s (moves c stands s) refl; awaited = on.awaited }
  where
    go : (s : ℕ) (b : Bool) → moves c stands s ≡ b → c.entered s + cond b 1 0 ≤ c.last s
    go s true m = omega (arith, (moved c stands s m).short)
    go s false m = omega (arith, on.within s)

pub ticks_make_no_ring : TicksMakeNoRing
ticks_make_no_ring c stands on r =
    let k = ticks_rank c r.0 r.1 in (
      tick_within c stands on,
      (ranked_exactly (tick c stands) (tick_within c stands on)).1 r.0
          (record {
            along = λ s i p q. k.along s i (omega arith) q;
            across = λ s i p q. All-weaker _ _ (λ b h n. h (omega arith)) (c.waits (at s (suc i))) (k.across s i (omega arith) q);
          }),
    )
