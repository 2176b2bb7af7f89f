-- A sweep along all paths works out the entry ticks, or stops at a ring.
use Rattle.std.proofs.Common.{◌≡◌, ℕ, zero, suc, ◌+◌, ◌<◌, ◌≤◌, max, cond, eqb, ◌⊎◌, List, [], ◌∷◌, map, sym, ◌∙◌, subst, ap₂, subst₂, inl, inr, ⊎_elim, le_refl, arith}
use native.Mathlib.Decide.{dec_le, dec_lt, ℕ_discrete}
use Rattle.std.specs.List.{AllByRecursion}
use Rattle.std.proofs.ByRecursion.{All-weaker}
use Rattle.std.proofs.lemmas.Bool.{cond_both}
use Rattle.meetings.specs.declared.stays.At.{At}
use Rattle.traffic.proofs.Lists.{all_both}
use Rattle.traffic.specs.Laws.{EntryTicksAgree, OnPathsAreTimed}
use Rattle.traffic.specs.Scene.{Scene, at, Numbers, number, greatest, rule}
use Rattle.traffic.specs.Sweep.{Ready, Sofar, Timed, SweepsStart, Advances, SweepsEnd, SweepsRing, SweepsBound}
use Rattle.traffic.proofs.Ranking.{below_greatest, list_same}

-- the rule gives the same where all that it looks at is the same
pub rule-same : (c : Scene) (e f : Numbers) (s i : ℕ) → e s i ≡ f s i → AllByRecursion (λ a. number e a ≡ number f a) (c.waits (at s (suc i))) → rule c e s i ≡ rule c f s i
rule-same c e f s i h each =
    ap₂ (λ x xs. suc (max (x + cond (eqb i (c.entered s)) (c.hold s) 0) (greatest xs))) h (list_same e f (c.waits (at s (suc i))) each)

pub sweeps_start : SweepsStart
sweeps_start c known e on start past = record {
  begun = λ s. omega (arith, start s);
  within = λ s. omega (arith, start s, on s);
  past = past;
  ahead = λ s i p q. absurd (omega (arith, start s));
  awaited = λ s i p q. absurd (omega (arith, start s));
}

module _ (c : Scene) (s i : ℕ) (known known' : ℕ → ℕ) (e e' : Numbers) (so : Sofar c known e) (by : Advances c s i known known' e e') where
  -- a shuttle's path is known as far as before, and the one shuttle's one stop further
  further : (r : ℕ) → (known' r ≡ known r) ⊎ ((r ≡ s) × (known r ≡ suc i) × (known' r ≡ suc (suc i)))
  further r = elim (ℕ_discrete r s) [ yes p ↦ inr (p, subst (λ x. known x ≡ suc i) (sym p) by.here, subst (λ x. known' x ≡ suc (suc i)) (sym p) by.next) | no n ↦ inl (by.rest r n) ]

  onward : (r : ℕ) → known r ≤ known' r
  onward r = ⊎_elim (λ h. omega arith) (λ h. omega arith) (further r)

  -- a stop with a number had it before, or it is the new one
  newest : (r j : ℕ) → suc j < known' r → (suc j < known r) ⊎ ((r ≡ s) × (j ≡ i))
  newest r j lt = elim (dec_lt (suc j) (known r)) [ yes p ↦ inl p | no n ↦ ⊎_elim (λ h. absurd (omega arith)) (λ h. inr (h.0, omega arith)) (further r) ]

  rule_kept : (r j : ℕ) → j < known r → Ready known (c.waits (at r (suc j))) → rule c e r j ≡ rule c e' r j
  rule_kept r j lt w = rule-same c e e' r j (sym (by.keeps r j lt)) (All-weaker _ _ (λ b h. sym (by.keeps b.shuttle b.stop h)) (c.waits (at r (suc j))) w)

  ready_still : (r j : ℕ) → c.entered r ≤ j → suc j < known' r → Ready known (c.waits (at r (suc j)))
  ready_still r j p q = ⊎_elim (λ lt. so.awaited r j p lt) (λ h. subst₂ (λ x y. Ready known (c.waits (at x (suc y)))) (sym h.0) (sym h.1) by.ready) (newest r j q)

  numbered : (r j : ℕ) → c.entered r ≤ j → suc j < known' r → e' r (suc j) ≡ rule c e r j
  numbered r j p q = ⊎_elim (λ lt. by.keeps r (suc j) lt ∙ so.ahead r j p lt) (λ h. subst₂ (λ x y. e' x (suc y) ≡ rule c e x y) (sym h.0) (sym h.1) by.made) (newest r j q)

  pub sweeps_advance : Sofar c known' e'
  sweeps_advance = record {
    begun = λ r. omega (arith, so.begun r, onward r);
    within = λ r. ⊎_elim (λ h. omega (arith, so.within r)) (λ h. subst (λ x. known' x ≤ suc (c.last x)) (sym h.0) (omega (arith, by.short))) (further r);
    past = λ r j p. by.keeps r j (omega (arith, so.begun r)) ∙ so.past r j p;
    ahead = λ r j p q. numbered r j p q ∙ rule_kept r j (omega (arith, further r)) (ready_still r j p q);
    awaited = λ r j p q. All-weaker _ _ (λ b h. omega (arith, onward b.shuttle)) (c.waits (at r (suc j))) (ready_still r j p q);
  }

pub sweeps_end : SweepsEnd
sweeps_end c known e so all = record {
  ticks = record { past = so.past; ahead = λ s i p q. so.ahead s i p (omega (arith, all s)) };
  exist = λ s i p q. All-weaker _ _ (λ b h. omega (arith, so.within b.shuttle)) (c.waits (at s (suc i))) (so.awaited s i p (omega (arith, all s)));
}

module _ (c : Scene) (known : ℕ → ℕ) (e f : Numbers) (so : Sofar c known e) (stuck : (r : ℕ) → known r ≤ c.last r → Ready known (c.waits (at r (known r))) → ⊥) (tf : Timed c f) where
  -- a stop whose predecessor and whose waits are known is known itself
  reached : (n s i : ℕ) → ((t k : ℕ) → k ≤ c.last t → f t k ≤ n → k < known t) → f s (suc i) ≤ suc n → c.entered s ≤ i → i < c.last s → suc i < known s
  reached n s i ih b p q =
      let ws = c.waits (at s (suc i)) in
      let r : f s (suc i) ≡ rule c f s i = tf.ticks.ahead s i p q in
      let before = ih s i (omega arith) (omega arith) in
      let ready : Ready known ws = all_both _ _ _ (λ a w h. ih a.shuttle a.stop w (omega arith)) ws (tf.exist s i p q) (below_greatest f ws) in
      elim (dec_lt (suc i) (known s)) [ yes d ↦ d | no m ↦ (let here : suc i ≡ known s = omega arith in absurd (stuck s (omega arith) (subst (λ x. Ready known (c.waits (at s x))) here ready))) ]

  all_known : (n s i : ℕ) → i ≤ c.last s → f s i ≤ n → i < known s
  all_known n s zero w b = omega (arith, so.begun s)
  all_known zero s (suc i) w b = elim (dec_le (suc i) (c.entered s)) [ yes p ↦ omega (arith, so.begun s) | no q ↦ (let r : f s (suc i) ≡ rule c f s i = tf.ticks.ahead s i (omega arith) w in absurd (omega arith)) ]
  all_known (suc n) s (suc i) w b = elim (dec_le (suc i) (c.entered s)) [ yes p ↦ omega (arith, so.begun s) | no q ↦ reached n s i (all_known n) b (omega arith) w ]

pub sweeps_ring : SweepsRing
sweeps_ring c known e s so short stuck f tf = omega (arith, all_known c known e f so stuck tf (f s (known s)) s (known s) short (le_refl (f s (known s))))

pub on_paths_are_timed : OnPathsAreTimed
on_paths_are_timed c e on ee = record { ticks = ee; exist = λ s i p q. on.awaited (at s (suc i)) }

module _ (c : Scene) (e f : Numbers) (te : Timed c e) (tf : Timed c f) where
  entered : (s i : ℕ) → i ≤ c.entered s → e s i ≡ f s i
  entered s i p = te.ticks.past s i p ∙ sym (tf.ticks.past s i p)

  later : (n s i : ℕ) → ((t k : ℕ) → k ≤ c.last t → e t k ≤ n → e t k ≡ f t k) → e s (suc i) ≤ suc n → c.entered s ≤ i → i < c.last s → e s (suc i) ≡ f s (suc i)
  later n s i ih b p q =
      let ws = c.waits (at s (suc i)) in
      let r : e s (suc i) ≡ rule c e s i = te.ticks.ahead s i p q in
      let each = all_both _ _ (λ a. number e a ≡ number f a) (λ a w h. ih a.shuttle a.stop w (omega arith)) ws (te.exist s i p q) (below_greatest e ws) in
      r ∙ rule-same c e f s i (ih s i (omega arith) (omega arith)) each ∙ sym (tf.ticks.ahead s i p q)

  agree : (n s i : ℕ) → i ≤ c.last s → e s i ≤ n → e s i ≡ f s i
  agree n s zero w b = entered s zero (omega arith)
  agree zero s (suc i) w b = elim (dec_le (suc i) (c.entered s)) [ yes p ↦ entered s (suc i) p | no q ↦ (let r : e s (suc i) ≡ rule c e s i = te.ticks.ahead s i (omega arith) w in absurd (omega arith)) ]
  agree (suc n) s (suc i) w b = elim (dec_le (suc i) (c.entered s)) [ yes p ↦ entered s (suc i) p | no q ↦ later n s i (agree n) b (omega arith) w ]

pub entry_ticks_agree : EntryTicksAgree
entry_ticks_agree c e f te tf s i w = agree c e f te tf (e s i) s i w (le_refl (e s i))

-- the greatest number of stops that have one is no more than what none of these passes
greatest_known : (known : ℕ → ℕ) (e : Numbers) (most : ℕ) → ((r j : ℕ) → j < known r → e r j ≤ most) → (l : List At) → Ready known l → greatest (map (number e) l) ≤ most
greatest_known known e most h [] w = omega arith
greatest_known known e most h (a ∷ l) w = omega (arith, h a.shuttle a.stop w.0, greatest_known known e most h l w.1)

pub sweeps_bound : SweepsBound
sweeps_bound c known e s i most longest hold h lt w =
    let extra : cond (eqb i (c.entered s)) (c.hold s) 0 ≤ longest = cond_both (eqb i (c.entered s)) (c.hold s) 0 (λ x. x ≤ longest) (λ t. hold) (λ t. omega arith) in
    let g = greatest_known known e most h (c.waits (at s (suc i))) w in
    omega (arith, h s i lt)
