-- Rounds of the rule reach the entry ticks.
use Rattle.std.proofs.Common.{◌≡◌, ℕ, zero, suc, ◌+◌, ◌-◌, ◌<◌, ◌≤◌, max, Bool, true, false, cond, ◌&&◌, eqb, leb, ltb, List, [], ◌∷◌, map, Some, None, Option, sum_by, sym, refl, ap, ◌∙◌, inl, inr, subst, zero-add, arith}
use Rattle.std.specs.List.{range_with_len, list_all, AllByRecursion}
use Rattle.std.proofs.ByRecursion.{All-weaker}
use Rattle.std.proofs.lemmas.Bool.{lt-ltb, le-ltb, le-leb, lt-leb, ltb-true, leb-true, eqb-true, eq-eqb, cond-true, cond-false, cases_lt, and_parts, and_from, and_left, and_right, or_cases, or_left, or_right}
use Rattle.std.proofs.lemmas.List.FromFn.{length-range_with_len, get_or-range_with_len}
use Rattle.std.proofs.lemmas.List.Sums.{get_or-le-sum_by}
use Rattle.std.proofs.lemmas.Option.{same_Some}
use Rattle.meetings.specs.declared.stays.At.{At}
use Rattle.traffic.specs.Laws.{with_waits}
use Rattle.traffic.specs.Safety.{left}
use Rattle.traffic.specs.Scene.{Scene, at, every, tick, ticks, nobody, Numbers, number, greatest, rule, EntryTicks, NoRing, OnPaths}
use Rattle.traffic.specs.Sweep.{Timed}
use Rattle.traffic.specs.Ticks.{is_ahead, round, rounds, exists, is_settled, all_settled, entry_ticks, IsWithin, EntryTicksAreTimed, NoStopHasNone, TimedIsFound, RingIsNone, NoneIsLater}
use Rattle.traffic.proofs.Lists.{all_both}
use Rattle.traffic.proofs.Progress.{ticks_make_fall}
use Rattle.traffic.proofs.Ranking.{below_greatest, ticks_make_no_ring}
use Rattle.traffic.proofs.Step.{ticks_are_entry_ticks}
use Rattle.traffic.proofs.Sweep.{rule-same}

-- a test passes on a range, and where it passes
all_from : (p : ℕ → Bool) (n a : ℕ) → ((i : ℕ) → a ≤ i → i < a + n → p i ≡ true) → list_all p (range_with_len a n) ≡ true
all_from p zero a h = refl
all_from p (suc n) a h = and_from _ _ (h a (omega arith) (omega arith)) (all_from p n (a + 1) (λ i l u. h i (omega arith) (omega arith)))

all_at : (p : ℕ → Bool) (n a i : ℕ) → list_all p (range_with_len a n) ≡ true → a ≤ i → i < a + n → p i ≡ true
all_at p zero a i h l u = absurd (omega arith)
all_at p (suc n) a i h l u =
    let both : (p a ≡ true) × (list_all p (range_with_len (a + 1) n) ≡ true) = and_parts _ _ h in
    elim (cases_lt a i) [
      | inl lt ↦ all_at p n (a + 1) i both.1 (omega arith) (omega arith)
      | inr le ↦ let same : a ≡ i = omega arith in subst (λ x. p x ≡ true) same both.0
    ]

all_exist : (c : Scene) (l : List At) → AllByRecursion (λ b. b.stop ≤ c.last b.shuttle) l → every (exists c) l ≡ true
all_exist c [] h = refl
all_exist c (b ∷ l) h = and_from _ _ (le-leb _ _ h.0) (all_exist c l h.1)

exist_all : (c : Scene) (l : List At) → every (exists c) l ≡ true → AllByRecursion (λ b. b.stop ≤ c.last b.shuttle) l
exist_all c [] h = tt
exist_all c (b ∷ l) h = let p = and_parts (exists c b) (every (exists c) l) h in (leb-true _ _ p.0, exist_all c l p.1)

module _ (c : Scene) where
  ahead : (s i : ℕ) → c.entered s ≤ i → i < c.last s → is_ahead c s i ≡ true
  ahead s i p q = and_from _ _ (le-leb _ _ p) (lt-ltb _ _ q)

  -- a round by the rule, and one that leaves 0
  by_rule : (e : Numbers) (s i : ℕ) → c.entered s ≤ i → i < c.last s → round c e s (suc i) ≡ rule c e s i
  by_rule e s i p q = cond-true (is_ahead c s i) _ _ (ahead s i p q)

  passed_none : (k s i : ℕ) → i ≤ c.entered s → rounds k c s i ≡ 0
  passed_none zero s i le = refl
  passed_none (suc k) s zero le = refl
  passed_none (suc k) s (suc i) le = cond-false (is_ahead c s i) _ _ (and_left _ _ (lt-leb (c.entered s) i le))

  past_none : (k s i : ℕ) → c.last s < i → rounds k c s i ≡ 0
  past_none zero s i lt = refl
  past_none (suc k) s zero lt = refl
  past_none (suc k) s (suc i) lt = cond-false (is_ahead c s i) _ _ (and_right _ _ (le-ltb i (c.last s) (omega arith)))

  -- a test of all stops, where it is passed
  settled_at : (n s i : ℕ) (e : Numbers) → all_settled c n e ≡ true → s < n → i < c.last s → is_settled c e s i ≡ true
  settled_at n s i e h ls li = all_at (is_settled c e s) (c.last s) 0 i (all_at (λ s. list_all (is_settled c e s) (range_with_len 0 (c.last s))) n 0 s h (omega arith) (omega arith)) (omega arith) (omega arith)

  -- an unentered one keeps the rule, and waits for stops that exist
  settled_rule : (s i : ℕ) (e : Numbers) → is_settled c e s i ≡ true → c.entered s ≤ i → (e s (suc i) ≡ rule c e s i) × AllByRecursion (λ b. b.stop ≤ c.last b.shuttle) (c.waits (at s (suc i)))
  settled_rule s i e h p =
      elim (or_cases (ltb i (c.entered s)) (eqb (e s (suc i)) (rule c e s i) && every (exists c) (c.waits (at s (suc i)))) h) [
        | inl t ↦ absurd (omega (arith, ltb-true _ _ t))
        | inr t ↦ let both = and_parts (eqb (e s (suc i)) (rule c e s i)) (every (exists c) (c.waits (at s (suc i)))) t in (eqb-true _ _ both.0, exist_all c (c.waits (at s (suc i))) both.1)
      ]

  settled_timed : (n k : ℕ) → IsWithin n c → all_settled c n (rounds k c) ≡ true → Timed c (rounds k c)
  settled_timed n k w h = record {
    ticks = record { past = passed_none k; ahead = λ s i p q. (by s i p q).0 };
    exist = λ s i p q. (by s i p q).1;
  }
    where
      by : (s i : ℕ) → c.entered s ≤ i → i < c.last s → (rounds k c s (suc i) ≡ rule c (rounds k c) s i) × AllByRecursion (λ b. b.stop ≤ c.last b.shuttle) (c.waits (at s (suc i)))
      by s i p q =
          elim (cases_lt s n) [
            | inl lt ↦ settled_rule s i (rounds k c) (settled_at n s i (rounds k c) h lt q) p
            | inr le ↦ absurd (omega (arith, w.none s le))
          ]

-- what is worked out, by whether it is settled
worked : (c : Scene) (n : ℕ) (e : Numbers) → entry_ticks c n ≡ Some e → (all_settled c n (rounds (left c n) c) ≡ true) × (rounds (left c n) c ≡ e)
unfolding entry_ticks
worked c n e h = by (all_settled c n (rounds (left c n) c)) refl h
  where
    by : (b : Bool) → all_settled c n (rounds (left c n) c) ≡ b → cond b (Some (rounds (left c n) c)) None ≡ Some e → (all_settled c n (rounds (left c n) c) ≡ true) × (rounds (left c n) c ≡ e)
    by true t h = (t, same_Some _ _ h)
    by false t h = absurd (cc)

pub entry_ticks_are_timed : EntryTicksAreTimed
entry_ticks_are_timed n c e w h = let r = worked c n e h in subst (Timed c) r.1 (settled_timed c n (left c n) w r.0)

pub no_stop_has_none : NoStopHasNone
no_stop_has_none n c e w h s i lt = let r = worked c n e h in sym (ap (λ (f : Numbers). f s i) r.1) ∙ past_none c (left c n) s i lt

-- every share of a sum is in it
one_of_sum : (g : ℕ → ℕ) (n s : ℕ) → s < n → g s ≤ sum_by g (range_with_len 0 n)
one_of_sum g n s l = omega (arith, get_or-le-sum_by g (range_with_len 0 n) s 0 (omega (arith, length-range_with_len 0 n)), ap g (get_or-range_with_len 0 n s 0 l ∙ zero-add s))

-- after so many undisturbed ticks every shuttle is at its last stop
arrived : (n k : ℕ) (c : Scene) → OnPaths c → ((a : At) → AllByRecursion (λ b. b.shuttle < n) (c.waits a)) → NoRing c → left c n ≤ k → (s : ℕ) → s < n → c.last s ≤ (ticks k c).entered s
arrived n zero c on few r le s lt = omega (arith, one_of_sum (λ s. (c.last s - c.entered s) + c.hold s) n s lt)
arrived n (suc k) c on few r le s lt =
    elim (cases_lt (c.entered s) (c.last s)) [
      | inl short ↦
          let falls = ticks_make_fall c n on r few s lt short in
          let next = ticks_make_no_ring c nobody on r in
          arrived n k (tick c nobody) next.0 few next.1 (omega arith) s lt
      | inr there ↦
          let now = (ticks_are_entry_ticks c r.0 on r.1 0 s (c.last s) (omega arith)).0 there in
          (ticks_are_entry_ticks c r.0 on r.1 (suc k) s (c.last s) (omega arith)).1 (omega arith)
    ]

-- the waits of unentered stops alone
abbrev is_unentered : Scene → At → Bool
is_unentered c a = ltb (c.entered a.shuttle) a.stop && leb a.stop (c.last a.shuttle)

abbrev ahead_only : Scene → Scene
ahead_only c = with_waits c (λ a. cond (is_unentered c a) (c.waits a) [])

module _ (n : ℕ) (c : Scene) (e : Numbers) (w : IsWithin n c) (t : Timed c e) where
  same_waits : (s i : ℕ) → c.entered s ≤ i → i < c.last s → (ahead_only c).waits (at s (suc i)) ≡ c.waits (at s (suc i))
  same_waits s i p q = cond-true _ _ _ (and_from _ _ (lt-ltb (c.entered s) (suc i) (omega arith)) (le-leb (suc i) (c.last s) q))

  pub only_on_paths : OnPaths (ahead_only c)
  only_on_paths = record { within = w.on; awaited = λ a. go a (is_unentered c a) refl }
    where
      go : (a : At) (b : Bool) → is_unentered c a ≡ b → AllByRecursion (λ b. b.stop ≤ c.last b.shuttle) (cond b (c.waits a) [])
      go a true h =
          let p = and_parts (ltb (c.entered a.shuttle) a.stop) (leb a.stop (c.last a.shuttle)) h in
          let above = ltb-true _ _ p.0 in
          let up = leb-true _ _ p.1 in
          let back : suc (a.stop - 1) ≡ a.stop = omega arith in
          subst (λ k. AllByRecursion (λ b. b.stop ≤ c.last b.shuttle) (c.waits (at a.shuttle k))) back (t.exist a.shuttle (a.stop - 1) (omega arith) (omega arith))
      go a false h = tt

  only_few : (a : At) → AllByRecursion (λ b. b.shuttle < n) ((ahead_only c).waits a)
  only_few a = go (is_unentered c a)
    where
      go : (b : Bool) → AllByRecursion (λ b. b.shuttle < n) (cond b (c.waits a) [])
      go true = w.awaited a
      go false = tt

  only_ticks : EntryTicks (ahead_only c) e
  only_ticks = record { past = t.ticks.past; ahead = λ s i p q. t.ticks.ahead s i p q ∙ ap (λ l. suc (max (e s i + cond (eqb i (c.entered s)) (c.hold s) 0) (greatest (map (number e) l)))) (sym (same_waits s i p q)) }

  pub none_late : (s i : ℕ) → i ≤ c.last s → e s i ≤ left c n
  none_late s i on =
      elim (cases_lt s n) [
        | inl lt ↦
            let there = arrived n (left c n) (ahead_only c) only_on_paths only_few (e, only_ticks) (omega arith) s lt in
            (ticks_are_entry_ticks (ahead_only c) e only_on_paths only_ticks (left c n) s i on).0 (omega arith)
        | inr le ↦ let z = w.none s le in let p = t.ticks.past s i (omega arith) in omega arith
      ]

  -- so many rounds reach all entry ticks up to so late
  reached : (k s i : ℕ) → i ≤ c.last s → e s i ≤ k → rounds k c s i ≡ e s i
  reached zero s i on b = omega arith
  reached (suc k) s zero on b = sym (t.ticks.past s zero (omega arith))
  reached (suc k) s (suc i) on b =
      elim (cases_lt i (c.entered s)) [
        | inl lt ↦ passed_none c (suc k) s (suc i) (omega arith) ∙ sym (t.ticks.past s (suc i) (omega arith))
        | inr le ↦
            let ws = c.waits (at s (suc i)) in
            let r : e s (suc i) ≡ rule c e s i = t.ticks.ahead s i le (omega arith) in
            let each = all_both _ _ (λ a. number (rounds k c) a ≡ number e a) (λ a w h. reached k a.shuttle a.stop w (omega arith)) ws (t.exist s i le (omega arith)) (below_greatest e ws) in
            by_rule c (rounds k c) s i le (omega arith) ∙ rule-same c (rounds k c) e s i (reached k s i (omega arith) (omega arith)) each ∙ sym r
      ]

  abbrev most : Numbers
  most = rounds (left c n) c

  all_reached : (s i : ℕ) → i ≤ c.last s → most s i ≡ e s i
  all_reached s i on = reached (left c n) s i on (none_late s i on)

  settled : all_settled c n most ≡ true
  settled = all_from _ n 0 (λ s l u. all_from (is_settled c most s) (c.last s) 0 (λ i _ low. one s i (omega arith)))
    where
      one : (s i : ℕ) → i < c.last s → is_settled c most s i ≡ true
      one s i q =
          elim (cases_lt i (c.entered s)) [
            | inl lt ↦ or_left _ _ (lt-ltb _ _ lt)
            | inr le ↦
                let ws = c.waits (at s (suc i)) in
                let each = All-weaker _ (λ a. number most a ≡ number e a) (λ a on. all_reached a.shuttle a.stop on) ws (t.exist s i le q) in
                let rules : most s (suc i) ≡ rule c most s i = all_reached s (suc i) q ∙ t.ticks.ahead s i le q ∙ sym (rule-same c most e s i (all_reached s i (omega arith)) each) in
                or_right _ _ (and_from _ _ (eq-eqb _ _ rules) (all_exist c ws (t.exist s i le q)))
          ]

pub none_is_later : NoneIsLater
none_is_later n c e w t s i on = none_late n c e w t s i on

pub timed_is_found : TimedIsFound
unfolding entry_ticks
timed_is_found n c e w t = (rounds (left c n) c, cond-true _ _ _ (settled n c e w t), all_reached n c e w t)

pub ring_is_none : RingIsNone
ring_is_none n c w = (none, ring)
  where
    none : entry_ticks c n ≡ None → (e : Numbers) → Timed c e → ⊥
    none is e t = let f = timed_is_found n c e w t in some_none f.0 (sym f.1 ∙ is)
      where
        some_none : (f : Numbers) → Some f ≡ None → ⊥
        some_none f e = cc

    ring : ((e : Numbers) → Timed c e → ⊥) → entry_ticks c n ≡ None
    ring h = by (entry_ticks c n) refl
      where
        by : (o : Option Numbers) → entry_ticks c n ≡ o → o ≡ None
        by None is = refl
        by (Some e) is = absurd (h e (entry_ticks_are_timed n c e w is))
