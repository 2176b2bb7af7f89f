-- The worked plans keep all rules of plans.
use Rattle.std.specs.Prelude.{◌≡◌, ℕ, zero, suc, ◌-◌, ◌<◌, ◌≤◌, Bool, true, false, not, ◌&&◌, if◌then◌else◌, ◌==◌, nat_lt, List, [], ◌∷◌, length}
use Rattle.std.proofs.Common.{refl, subst, arith, rules}
use Rattle.std.proofs.lemmas.Bool.Decides.{nat_tests}
use Rattle.files.specs.Bytes.{Limits}
use Rattle.files.specs.declared.plan.Stop.{Stop}
use Rattle.files.specs.Rules.{path_at, stop_at, Keeps, PathsKeep}
use Rattle.meetings.specs.Laws.{ClearLaw}
use Rattle.meetings.specs.Meetings.{clashes, stay_in, NoClash}
use Rattle.meetings.specs.declared.stays.Stay.{Stay}
use Rattle.meetings.specs.Stays.{stays}
use Rattle.plans.specs.Kept.{IsKept, plan_layout}
use Rattle.worked.proofs.Following.{both}
use Rattle.worked.specs.Plans.{plan_of, one_meeting, two_meetings, p_plan, p_plan_with_table, q_plan}

-- whether all numbers below n pass a test
abbrev below : ℕ → (ℕ → Bool) → Bool
below zero test = true
below (suc n) test = test n && below n test

last_or_below :
    (n : ℕ) (test : ℕ → Bool) (i : ℕ) → test n ≡ true → (i < n → test i ≡ true) → i < suc n
    → (v : Bool) → nat_lt i n ≡ v → test i ≡ true
last_or_below n test i last rest low true e =
    let less : i < n = grind (arith, nat_tests) in rest less
last_or_below n test i last rest low false e =
    let same : n ≡ i = grind (arith, nat_tests) in subst (λ k. test k ≡ true) same last

all_below : (n : ℕ) (test : ℕ → Bool) → below n test ≡ true → (i : ℕ) → i < n → test i ≡ true
all_below zero test t i low = let none : ⊥ = omega (arith, low) in absurd none
all_below (suc n) test t i low =
    let p = both (test n) (below n test) t in
    last_or_below n test i p.0 (λ less. all_below n test p.1 i less) low (nat_lt i n) refl

abbrev keeps : List Stop → ℕ → Bool
keeps path i =
    if i == 0 then (stop_at path i).tick == 0
    else nat_lt (stop_at path (i - 1)).tick (stop_at path i).tick
    && not ((stop_at path (i - 1)).place == (stop_at path i).place)

does_keep : (path : List Stop) (i : ℕ) → keeps path i ≡ true → Keeps path i
does_keep path zero t = record {
  starts = λ z. grind (arith, nat_tests);
  rises = λ low. omega (arith, low);
  differs = λ low. omega (arith, low);
}
does_keep path (suc i) t = record {
  starts = λ z. omega (arith, z);
  rises = λ low. grind (arith, nat_tests);
  differs = λ low. grind (arith, nat_tests);
}

abbrev all_keep : List (List Stop) → Bool
all_keep ps = below (length ps) (λ s. below (length (path_at ps s)) (keeps (path_at ps s)))

paths_keep : (ps : List (List Stop)) → all_keep ps ≡ true → PathsKeep ps
paths_keep ps t s s_low i i_low =
    let path = path_at ps s in
    does_keep path i
    (all_below (length path) (keeps path)
    (all_below (length ps) (λ s. below (length (path_at ps s)) (keeps (path_at ps s))) t s s_low)
    i i_low)

abbrev none_clash : List Stay → Bool
none_clash xs = below (length xs) (λ l. below l (λ k. not (clashes (stay_in xs k) (stay_in xs l))))

no_clash : (xs : List Stay) → none_clash xs ≡ true → NoClash xs
no_clash xs t k l k_low l_low =
    let row =
    all_below (length xs) (λ l. below l (λ k. not (clashes (stay_in xs k) (stay_in xs l))))
    t l l_low in
    let none : not (clashes (stay_in xs k) (stay_in xs l)) ≡ true =
    all_below l (λ k. not (clashes (stay_in xs k) (stay_in xs l))) row k k_low in
    search (rules, none)

module _ (clear : (ps : List (List Stop)) → ClearLaw ps) where
  kept :
      (ps : List (List Stop)) (tables : List ℕ) → Limits (plan_layout (plan_of ps tables))
      → all_keep ps ≡ true → none_clash (stays ps) ≡ true
      → length (plan_of ps tables).meetings ≤ 256
      → IsKept (plan_of ps tables)
  kept ps tables limits rules_kept clash few = record {
    limits = limits;
    rules = paths_keep ps rules_kept;
    few = few;
    clear = (clear ps (paths_keep ps rules_kept)).0 (no_clash (stays ps) clash);
    listed = refl;
  }

  pub p_kept : IsKept p_plan
  p_kept = kept one_meeting [] (record {
    some = omega arith;
    shuttles = omega arith;
    stops = search (rules, arith);
    total = omega arith;
    few = omega arith;
    places = tt;
    rising = λ i low. omega (arith, low);
  }) refl refl (omega arith)

  pub p_table_kept : IsKept p_plan_with_table
  p_table_kept = kept one_meeting (5 ∷ []) (record {
    some = omega arith;
    shuttles = omega arith;
    stops = search (rules, arith);
    total = omega arith;
    few = omega arith;
    places = search (rules, arith);
    rising = λ i low. omega (arith, low);
  }) refl refl (omega arith)

  pub q_kept : IsKept q_plan
  q_kept = kept two_meetings [] (record {
    some = omega arith;
    shuttles = omega arith;
    stops = search (rules, arith);
    total = omega arith;
    few = omega arith;
    places = tt;
    rising = λ i low. omega (arith, low);
  }) refl refl (omega arith)
