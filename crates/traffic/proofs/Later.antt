-- More waits never give a smaller entry tick, and waits that are satisfied change none.
use Rattle.std.proofs.Common.{◌≡◌, ℕ, zero, suc, ◌<◌, ◌≤◌, max, List, [], ◌∷◌, map, le_refl, arith}
use native.Mathlib.Decide.{dec_le}
use Rattle.std.specs.List.{ContainsAt, AllByRecursion}
use Rattle.std.proofs.ByRecursion.{All-weaker, all-has}
use Rattle.meetings.specs.declared.stays.At.{At}
use Rattle.traffic.proofs.Lists.{all_both}
use Rattle.traffic.specs.Laws.{with_waits, Among, MoreIsLater, SatisfiedIsSame}
use Rattle.traffic.specs.Scene.{Scene, at, Numbers, number, greatest, own, rule, EntryTicks, OnPaths}
use Rattle.traffic.proofs.Ranking.{below_greatest}

-- the greatest is no more than what no number passes
greatest_under : (e : Numbers) (n : ℕ) (l : List At) → AllByRecursion (λ a. number e a ≤ n) l → greatest (map (number e) l) ≤ n
greatest_under e n [] h = omega arith
greatest_under e n (a ∷ l) h = let r = greatest_under e n l h.1 in omega (arith, h.0)

module _ (c : Scene) (more : At → List At) (e f : Numbers) (among : Among c.waits more) (ee : EntryTicks c e) (ff : EntryTicks (with_waits c more) f) (on : OnPaths (with_waits c more)) where
  later : (n s i : ℕ) → ((t k : ℕ) → k ≤ c.last t → f t k ≤ n → e t k ≤ f t k) → f s (suc i) ≤ suc n → c.entered s ≤ i → i < c.last s → e s (suc i) ≤ f s (suc i)
  later n s i ih b p q =
      let a = at s (suc i) in
      let r : e s (suc i) ≡ rule c e s i = ee.ahead s i p q in
      let t : f s (suc i) ≡ rule (with_waits c more) f s i = ff.ahead s i p q in
      let top = greatest (map (number f) (more a)) in
      let P : At → Type 0 = λ x. (number f x ≤ top) × (x.stop ≤ c.last x.shuttle) in
      let both : AllByRecursion P (more a) = all_both (λ x. number f x ≤ top) (λ x. x.stop ≤ c.last x.shuttle) P (λ x g l. (g, l)) (more a) (below_greatest f (more a)) (on.awaited a) in
      let each : AllByRecursion (λ x. number e x ≤ top) (c.waits a) = All-weaker (ContainsAt (more a)) _ (λ x h. let w = all-has P (more a) x both h in omega (arith, ih x.shuttle x.stop w.1 (omega (arith, w.0)), w.0)) (c.waits a) (among a) in
      let under = greatest_under e top (c.waits a) each in
      let same = ih s i (omega arith) (omega arith) in
      omega arith

  no_less : (n s i : ℕ) → i ≤ c.last s → f s i ≤ n → e s i ≤ f s i
  no_less n s zero w b = let z = ee.past s zero (omega arith) in omega arith
  no_less zero s (suc i) w b = elim (dec_le (suc i) (c.entered s)) [ yes p ↦ (let z = ee.past s (suc i) p in omega arith) | no q ↦ (let t : f s (suc i) ≡ rule (with_waits c more) f s i = ff.ahead s i (omega arith) w in absurd (omega arith)) ]
  no_less (suc n) s (suc i) w b = elim (dec_le (suc i) (c.entered s)) [ yes p ↦ (let z = ee.past s (suc i) p in omega arith) | no q ↦ later n s i (no_less n) b (omega arith) w ]

pub more_is_later : MoreIsLater
more_is_later c more e f among ee ff s i w on = no_less c more e f among ee ff on (f s i) s i w (le_refl (f s i))

pub satisfied_is_same : SatisfiedIsSame
satisfied_is_same c more e among ee kept = record {
  past = ee.past;
  ahead = λ s i p q.
      let a = at s (suc i) in
      let r : e s (suc i) ≡ rule c e s i = ee.ahead s i p q in
      let top = greatest (map (number e) (more a)) in
      let up = greatest_under e top (c.waits a) (All-weaker (ContainsAt (more a)) _ (λ x h. all-has (λ x. number e x ≤ top) (more a) x (below_greatest e (more a)) h) (c.waits a) (among a)) in
      let down = greatest_under e (max (own c e s i) (greatest (map (number e) (c.waits a)))) (more a) (All-weaker _ _ (λ x h. omega arith) (more a) (kept s i p q)) in
      omega arith;
}
