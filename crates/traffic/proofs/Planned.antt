-- The scene of a plan keeps what the laws ask.
use Rattle.std.proofs.Common.{◌≡◌, ℕ, suc, ◌-◌, ◌<◌, ◌≤◌, ◌⊎◌, List, [], length, get_or, Some, None, Option, sym, refl, ap, ◌∙◌, subst, inl, inr, ⊎_elim, arith}
use Rattle.std.specs.List.{ContainsAt, AllByRecursion}
use Rattle.std.proofs.ByRecursion.{All-weaker, all-has, has_get_or, all_has_itself}
use Rattle.std.proofs.lemmas.List.{get_or_past, get_or-map, length-map}
use Rattle.std.proofs.lemmas.Bool.{cond-true, cond-false, cases_lt}
use Rattle.std.proofs.lemmas.Option.{same_Some}
use Rattle.files.specs.declared.plan.Stop.{Stop}
use Rattle.files.specs.Rules.{stop_at, path_at, PathsKeep}
use Rattle.meetings.specs.declared.meet.First.{First}
use Rattle.meetings.specs.declared.meet.First.TheVariants.{Lower, Other}
use Rattle.meetings.specs.declared.meet.Meeting.{Meeting}
use Rattle.meetings.specs.declared.stays.At.{At}
use Rattle.meetings.specs.Collisions.{NoCollision}
use Rattle.meetings.specs.Laws.{StopOf, stop_of, stay_of, MeetingsLaw, ClearLaw, FirstLaw, OneFirst}
use Rattle.meetings.specs.Meetings.{is_left_before, meetings, meeting_between}
use Rattle.orders.specs.declared.waits.Wait.{Wait}
use Rattle.orders.specs.Waits.{wait_under, stops_in_order, firsts_of}
use Rattle.traffic.specs.Index.{meeting_at, no_meeting, order_at}
use Rattle.traffic.specs.Plans.{awaits, named, scene_of, fresh_scene, planned_ticks, FreshRunsHaveNoRing, FullOrdersSettle, PlansAreWithin}
use Rattle.traffic.specs.Safety.{Waited}
use Rattle.traffic.specs.Scene.{at, OnPaths, Ranks}
use Rattle.traffic.specs.Tables.{AtTable, TablesAreServedInOrder}
use Rattle.traffic.proofs.Ranking.{ranked_exactly}
use Rattle.traffic.proofs.Waiting.{stops_wait_exactly}

-- what holds of each wait at a meeting holds of all that a stop waits for
each_awaited :
    (P : At → At → Type 0) (ms : List Meeting) (orders : List (Option First)) (a : At)
    → ((j : ℕ) (f : First) → j < length ms → order_at orders j ≡ Some f → P (wait_under (meeting_at ms j) f).second (wait_under (meeting_at ms j) f).awaited) → AllByRecursion (P a) (awaits ms orders a)
each_awaited P ms orders a h =
    All-weaker (ContainsAt (awaits ms orders a)) (P a)
    (λ b there. let w = (stops_wait_exactly ms orders a b).0 there in subst (λ (x : Wait). P x.second x.awaited) w.wait (h w.meeting w.first w.there w.ordered))
    (awaits ms orders a) (all_has_itself (awaits ms orders a))

-- who goes first by orders that leave no meeting out
named-at : (fs : List First) (j : ℕ) → j < length fs → order_at (named fs) j ≡ Some (get_or fs j Lower)
named-at fs j lt = get_or-map (λ f. Some f) fs j Lower None lt

-- by the plan's own orders it is who does in the plan
own-at : (ms : List Meeting) (j : ℕ) (f : First) → j < length ms → order_at (named (firsts_of ms)) j ≡ Some f → f ≡ (meeting_at ms j).first
own-at ms j f lt e =
    let own : get_or (firsts_of ms) j Lower ≡ (meeting_at ms j).first = get_or-map (λ (m : Meeting). m.first) ms j no_meeting Lower lt in
    same_Some _ _ (sym e ∙ named-at (firsts_of ms) j (omega (arith, lt, length-map ms (λ (m : Meeting). m.first)))) ∙ own

module _ (listed : (ps : List (List Stop)) → MeetingsLaw ps) (unclashed : (ps : List (List Stop)) → ClearLaw ps) (first : (ps : List (List Stop)) → FirstLaw ps) where
  -- a meeting by its number is one of the plan
  has_meeting : (ps : List (List Stop)) (j : ℕ) → j < length (meetings ps) → ContainsAt (meetings ps) (meeting_at (meetings ps) j)
  has_meeting ps j lt = has_get_or (meetings ps) j no_meeting lt

  module _ (ps : List (List Stop)) (keeps : PathsKeep ps) (clear : NoCollision ps) where
    -- a wait of the plan: the stop waited for is on its path, and planned earlier
    abbrev Early : At → At → Type 0
    Early a b = (b.stop < length (path_at ps b.shuttle)) × (planned_ticks ps b.shuttle b.stop < planned_ticks ps a.shuttle a.stop)

    early : (m : Meeting) (f : First) → OneFirst ps m f → Early (wait_under m f).second (wait_under m f).awaited
    early m Lower o = (o.0.0, o.0.1)
    early m Other o = (o.0.0, o.0.1)

    all_early : (a : At) → AllByRecursion (Early a) ((fresh_scene ps).waits a)
    all_early a =
        each_awaited Early (meetings ps) (named (firsts_of (meetings ps))) a (λ j f lt e.
        let m = meeting_at (meetings ps) j in
        subst (λ (x : First). Early (wait_under m x).second (wait_under m x).awaited) (sym (own-at (meetings ps) j f lt e)) (early m m.first (first ps keeps ((unclashed ps keeps).1 clear) m (has_meeting ps j lt))))

    -- a shuttle with a second stop is one of the plan
    within : (s i : ℕ) → i < length (path_at ps s) - 1 → s < length ps
    within s i lt = ⊎_elim (λ h. h) (λ (ge : length ps ≤ s). absurd (omega (arith, ap length (get_or_past ps s [] ge)))) (cases_lt s (length ps))

    rises : (s i : ℕ) → suc i < length (path_at ps s) → planned_ticks ps s i < planned_ticks ps s (suc i)
    rises s i lt = let back : suc i - 1 ≡ i = omega arith in subst (λ k. planned_ticks ps s k < planned_ticks ps s (suc i)) back ((keeps s (within s i (omega arith)) (suc i) lt).rises (omega arith))

    fresh_on_paths : OnPaths (fresh_scene ps)
    fresh_on_paths = record { within = λ s. omega arith; awaited = λ a. All-weaker (Early a) _ (λ b h. omega (arith, h.0)) ((fresh_scene ps).waits a) (all_early a) }

    fresh_ranks : Ranks (fresh_scene ps) (planned_ticks ps)
    fresh_ranks = record {
      along = λ s i p q. rises s i (omega arith);
      across = λ s i p q. All-weaker (Early (at s (suc i))) _ (λ b h _. h.1) ((fresh_scene ps).waits (at s (suc i))) (all_early (at s (suc i)));
    }

    -- every path starts at tick 0, and so does one that is not there
    start_tick : (s : ℕ) → planned_ticks ps s 0 ≡ 0
    start_tick s =
        elim (cases_lt s (length ps)) [
          | inl lt ↦ elim (cases_lt 0 (length (path_at ps s))) [ inl some ↦ (keeps s lt 0 some).starts refl | inr none ↦ ap (λ (x : Stop). x.tick) (get_or_past (path_at ps s) 0 _ none) ]
          | inr ge ↦ ap (λ (path : List Stop). (stop_at path 0).tick) (get_or_past ps s [] ge)
        ]

    fresh_waited : Waited (fresh_scene ps) (λ s. 0)
    fresh_waited = record {
      onward = λ s. omega arith;
      kept = λ s i p. All-weaker (Early (at s i)) _ (λ b h. absurd (omega (arith, h.1, ap (planned_ticks ps s) {x = i} {y = 0} (omega arith), start_tick s))) ((fresh_scene ps).waits (at s i)) (all_early (at s i));
    }

  pub fresh_runs_have_no_ring : FreshRunsHaveNoRing
  fresh_runs_have_no_ring ps keeps clear =
      let on = fresh_on_paths ps keeps clear in
      let ranks = fresh_ranks ps keeps clear in
      record { on_paths = on; ranks = ranks; no_ring = (ranked_exactly (fresh_scene ps) on).1 (planned_ticks ps) ranks; waited = fresh_waited ps keeps clear }

  -- one of two stops that meet waits for the stop after the other
  one_waits :
      (ps : List (List Stop)) (fs : List First) → length fs ≡ length (meetings ps) → (a b : At) → StopOf ps a → StopOf ps b → a.shuttle < b.shuttle → (stop_of ps a).place ≡ (stop_of ps b).place
      → ContainsAt (awaits (meetings ps) (named fs) a) (at b.shuttle (suc b.stop)) ⊎ ContainsAt (awaits (meetings ps) (named fs) b) (at a.shuttle (suc a.stop))
  one_waits ps fs len a b v w less same =
      let m = meeting_between (stay_of ps a) (stay_of ps b) in
      let has = (listed ps).complete m (record { lower = v; other = w; ordered = less; place = same; first = (λ e. cond-true (is_left_before (stay_of ps a) (stay_of ps b)) Lower Other e, λ e. cond-false (is_left_before (stay_of ps a) (stay_of ps b)) Lower Other e) }) in
      go m has.0 has.1 (has.2 no_meeting) (get_or fs has.0 Lower) refl (named-at fs has.0 (omega (arith, len, has.1))) refl refl
    where
      go : (m : Meeting) (j : ℕ) → j < length (meetings ps) → meeting_at (meetings ps) j ≡ m → (f : First) → get_or fs j Lower ≡ f → order_at (named fs) j ≡ Some (get_or fs j Lower) → m.lower ≡ a → m.other ≡ b
          → ContainsAt (awaits (meetings ps) (named fs) a) (at b.shuttle (suc b.stop)) ⊎ ContainsAt (awaits (meetings ps) (named fs) b) (at a.shuttle (suc a.stop))
      go m j lt is Lower f o p q =
          inr ((stops_wait_exactly (meetings ps) (named fs) b (at a.shuttle (suc a.stop))).1
          (record { meeting = j; there = lt; first = Lower; ordered = o ∙ ap (λ x. Some x) f; wait = ap (λ (x : Meeting). wait_under x Lower) is ∙ (λ i. record { second = q i; awaited = record { shuttle = (p i).shuttle; stop = suc (p i).stop } }) }))
      go m j lt is Other f o p q =
          inl ((stops_wait_exactly (meetings ps) (named fs) a (at b.shuttle (suc b.stop))).1
          (record { meeting = j; there = lt; first = Other; ordered = o ∙ ap (λ x. Some x) f; wait = ap (λ (x : Meeting). wait_under x Other) is ∙ (λ i. record { second = p i; awaited = record { shuttle = (q i).shuttle; stop = suc (q i).stop } }) }))

  pub full_orders_settle : FullOrdersSettle
  full_orders_settle ps fs entered hold len some s r i j sn rn ne il jl same =
      let a = at s i in
      let b = at r j in
      let v : StopOf ps a = (sn, omega (arith, some s sn)) in
      let w : StopOf ps b = (rn, omega (arith, some r rn)) in
      ⊎_elim
      (λ (less : s < r). one_waits ps fs len a b v w less same)
      (λ (ge : r ≤ s). ⊎_elim (λ h. inr h) (λ h. inl h) (one_waits ps fs len b a w v (omega arith) (sym same)))
      (cases_lt s r)

  -- what is waited for is a stop of a shuttle of the plan
  awaited_within : (ps : List (List Stop)) (m : Meeting) (f : First) → m.lower.shuttle < m.other.shuttle → m.other.shuttle < length ps → (wait_under m f).awaited.shuttle < length ps
  awaited_within ps m Lower less lt = omega arith
  awaited_within ps m Other less lt = lt

  pub plans_are_within : PlansAreWithin
  plans_are_within ps orders entered hold on = record {
    on = on;
    none = λ s ge. ap (λ (path : List Stop). length path - 1) (get_or_past ps s [] ge);
    awaited = λ a. each_awaited (λ _ b. b.shuttle < length ps) (meetings ps) orders a (λ j f lt _. let m = (listed ps).sound (meeting_at (meetings ps) j) (has_meeting ps j lt) in awaited_within ps (meeting_at (meetings ps) j) f m.ordered m.other.0);
  }

-- the first at a meeting is left when the second's stop is entered
first_left :
    (ps : List (List Stop)) (fs : List First) (entered hold before : ℕ → ℕ) (m : Meeting) (f : First) → Waited (scene_of ps (named fs) entered hold) before
    → ContainsAt (awaits (meetings ps) (named fs) (wait_under m f).second) (wait_under m f).awaited → (stops_in_order m f).1.stop ≤ entered (stops_in_order m f).1.shuttle
    → (stops_in_order m f).0.stop < entered (stops_in_order m f).0.shuttle
first_left ps fs entered hold before m Lower w waits came = omega (arith, all-has (λ b. b.stop ≤ before b.shuttle) _ _ (w.kept m.other.shuttle m.other.stop came) waits, w.onward m.lower.shuttle)
first_left ps fs entered hold before m Other w waits came = omega (arith, all-has (λ b. b.stop ≤ before b.shuttle) _ _ (w.kept m.lower.shuttle m.lower.stop came) waits, w.onward m.other.shuttle)

pub tables_are_served_in_order : TablesAreServedInOrder
tables_are_served_in_order ps tables fs entered hold before len keep w m o =
    let j = o.meets.0 in
    let lt = o.meets.1 in
    let is : meeting_at (meetings ps) j ≡ m = o.meets.2 no_meeting in
    let own : get_or fs j Lower ≡ m.first = keep j lt (subst (AtTable ps tables) (sym is) o.table) ∙ ap (λ (x : Meeting). x.first) is in
    let there = (stops_wait_exactly (meetings ps) (named fs) (wait_under m m.first).second (wait_under m m.first).awaited).1
    (record { meeting = j; there = lt; first = m.first; ordered = named-at fs j (omega (arith, len, lt)) ∙ ap (λ x. Some x) own; wait = ap (λ (x : Meeting). wait_under x m.first) is }) in
    o.first (first_left ps fs entered hold before m m.first w there o.second)
