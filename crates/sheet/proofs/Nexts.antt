-- An arrival is above 0 exactly where its shuttle has a next stop.
use Rattle.std.proofs.Common.{◌≡◌, ℕ, zero, suc, ◌-◌, ◌<◌, ◌≤◌, ◌↔◌, Bool, true, false, cond, ◌&&◌, ◌||◌, eqb, leb, ltb, List, [], length, get_or, Some, None, Option, Result, sym, refl, ap, ◌∙◌, subst, inl, inr, arith}
use Rattle.std.specs.List.{range_with_len, list_all}
use Rattle.std.specs.Result.{IsOk}
use Rattle.std.specs.Option.{IsSome, is_some, option_and_then, option_map_or}
use Rattle.std.proofs.lemmas.Bool.{cases_lt, lt-ltb, ltb-true, eqb-true, and_parts, or_cases}
use Rattle.std.proofs.lemmas.Bool.Decides.{nat_tests}
use Rattle.std.proofs.lemmas.List.FromFn.{get_or-range_with_len, get_or-map-range_with_len, length-range_with_len, length-map-range_with_len}
use Rattle.std.proofs.lemmas.List.Sums.{AllPass-from_list_all}
use Rattle.std.proofs.lemmas.Option.{cond_some}
use Rattle.files.specs.Rules.{path_at}
use Rattle.meetings.specs.declared.stays.At.{At}
use Rattle.traffic.specs.Safety.{left}
use Rattle.traffic.specs.Scene.{Scene, Numbers, rule, every, at}
use Rattle.traffic.specs.Ticks.{all_settled, entry_ticks, exists, is_settled, rounds}
use Rattle.floor.specs.Shuttles.{stop_in}
use Rattle.floor.specs.Times.{Times, arrivals_by}
use Rattle.refusals.specs.declared.Refusal.{Refusal}
use Rattle.run.specs.Asks.{next_of}
use Rattle.run.specs.State.{State, paths_on, count_on, scene_now}
use Rattle.run.specs.Timing.{Expected}
use Rattle.sheet.specs.Ahead.{TellsNextStops}
use Rattle.sheet.specs.Laws.{ArrivalsTellNextStops}

-- the next stop is the shuttle's own
pub next_own : (s : ℕ) (st : Option State) (a : At) → option_and_then (next_of s) st ≡ Some a → a.shuttle ≡ s
next_own s None a e = absurd (cc)
next_own s (Some st) a e =
    let one = cond_some (ltb (suc (stop_in st.shuttles s)) (length (path_at (paths_on st) s))) (at s (suc (stop_in st.shuttles s))) a e in
    ap (λ (x : At). x.shuttle) (sym one.1)

-- what the arrivals tell of a shuttle
module _ (st : Option State) (arrivals : List ℕ) (s : ℕ) (tells : TellsNextStops st arrivals) (lt : s < length arrivals) where
  pub above_zero : (a : At) → option_and_then (next_of s) st ≡ Some a → 0 < get_or arrivals s 0
  above_zero a e = (tells s lt).1 (ap is_some e)

  pub at_zero : ((a : At) → option_and_then (next_of s) st ≡ Some a → ⊥) → get_or arrivals s 0 ≡ 0
  at_zero none = elim (cases_lt 0 (get_or arrivals s 0)) [
    | inl pos ↦ absurd (by (option_and_then (next_of s) st) ((tells s lt).0 pos) none)
    | inr le ↦ omega (arith, le)
  ]
    where
      by : (o : Option At) → IsSome o → ((a : At) → o ≡ Some a → ⊥) → ⊥
      by None h none = absurd (cc)
      by (Some a) h none = none a refl

-- a test that all numbers below n pass
passes : (p : ℕ → Bool) (n i : ℕ) → list_all p (range_with_len 0 n) ≡ true → i < n → p i ≡ true
passes p n i all lt =
    subst (λ k. p k ≡ true) (get_or-range_with_len 0 n i 0 lt ∙ omega arith) (AllPass-from_list_all p (range_with_len 0 n) all i 0 (omega (arith, length-range_with_len 0 n, lt)))

-- a round gives an entered stop 0, and an unentered one that is settled has its rule
round_entered : (e l i r : ℕ) → suc i ≤ e → cond (leb e i && ltb i l) r 0 ≡ 0
round_entered e l i r le = grind (arith, nat_tests)

settled_rule : (e i t r : ℕ) (more : Bool) → (ltb i e || (eqb t r && more)) ≡ true → e ≤ i → t ≡ r
settled_rule e i t r more h le = elim (or_cases (ltb i e) (eqb t r && more) h) [
  | inl entered ↦ absurd (omega (arith, ltb-true i e entered))
  | inr kept ↦ eqb-true t r (and_parts (eqb t r) more kept).0
]

-- the entry tick of a last stop is above 0 exactly where the stop is unentered
module _ (c : Scene) (n : ℕ) where
  entered_rounds : (k s i : ℕ) → i ≤ c.entered s → rounds k c s i ≡ 0
  entered_rounds zero s i le = refl
  entered_rounds (suc k) s zero le = refl
  entered_rounds (suc k) s (suc i) le = round_entered (c.entered s) (c.last s) i (rule c (λ x y. rounds k c x y) s i) le

  module _ (e : Numbers) (found : entry_ticks c n ≡ Some e) where
    by_rounds : (all_settled c n e ≡ true) × (rounds (left c n) c ≡ e)
    unfolding entry_ticks
    by_rounds =
        let one = cond_some (all_settled c n (rounds (left c n) c)) (rounds (left c n) c) e found in
        (subst (λ (f : Numbers). all_settled c n f ≡ true) one.1 one.0, one.1)

    last_entered : (s : ℕ) → c.last s ≤ c.entered s → e s (c.last s) ≡ 0
    last_entered s le = ap (λ (f : Numbers). f s (c.last s)) (sym by_rounds.1) ∙ entered_rounds (left c n) s (c.last s) le

    last_ahead : (s : ℕ) → s < n → c.entered s < c.last s → 0 < e s (c.last s)
    last_ahead s lt ahead =
        let i = c.last s - 1 in
        let settled : is_settled c e s i ≡ true = passes (is_settled c e s) (c.last s) i (passes (λ r. list_all (is_settled c e r) (range_with_len 0 (c.last r))) n s by_rounds.0 lt) (omega arith) in
        let top : suc i ≡ c.last s = omega arith in
        let is : e s (suc i) ≡ rule c e s i = settled_rule (c.entered s) i (e s (suc i)) (rule c e s i) (every (exists c) (c.waits (at s (suc i)))) settled (omega arith) in
        omega (arith, is, ap (e s) top)

    unentered : (s : ℕ) → 0 < e s (c.last s) → c.entered s < c.last s
    unentered s pos = elim (cases_lt (c.entered s) (c.last s)) [
      | inl lt ↦ lt
      | inr le ↦ absurd (omega (arith, last_entered s le))
    ]

some_by : {X : Type 0} (b : Bool) (x : X) → b ≡ true → IsSome (cond b (Some x) None)
some_by true x e = refl
some_by false x e = absurd (cc)

by_some : {X : Type 0} (b : Bool) (x : X) → IsSome (cond b (Some x) None) → b ≡ true
by_some true x h = refl
by_some false x h = absurd (cc)

pub arrivals_tell : ArrivalsTellNextStops
arrivals_tell st s = by (entry_ticks c (count_on st)) refl
  where
    c : Scene
    c = scene_now st

    i : ℕ
    i = suc (stop_in st.shuttles s)

    n : ℕ
    n = length (path_at (paths_on st) s)

    by : (o : Option Numbers) → entry_ticks c (count_on st) ≡ o → s < length (option_map_or (arrivals_by c (count_on st)) o []) → (0 < get_or (option_map_or (arrivals_by c (count_on st)) o []) s 0) ↔ IsSome (next_of s st)
    by None none lt = absurd (omega (arith, lt))
    by (Some e) found lt =
        let within : s < count_on st = omega (arith, lt, length-map-range_with_len (λ r. e r (c.last r)) 0 (count_on st)) in
        let is : get_or (arrivals_by c (count_on st) e) s 0 ≡ e s (c.last s) = get_or-map-range_with_len (λ r. e r (c.last r)) 0 (count_on st) s s 0 within (omega arith) in (
          (λ pos. some_by (ltb i n) _ (lt-ltb i n (let short = unentered c (count_on st) e found s (omega (arith, is, pos)) in omega (arith, short)))),
          (λ some. let late = last_ahead c (count_on st) e found s within (omega (arith, ltb-true i n (by_some (ltb i n) _ some))) in omega (arith, is, late)),
        )

pub expected_tell : ArrivalsTellNextStops → (st : Option State) (r : Result (Unit {0}) Refusal) (old new : Times) → Expected st r old new → IsOk r → TellsNextStops st new.arrivals
expected_tell tell None r old new h ok = absurd (cc (h.0))
expected_tell tell (Some st) r old new h ok = subst (λ (l : List ℕ). TellsNextStops (Some st) l) (sym h.1.arrivals) (tell st)
