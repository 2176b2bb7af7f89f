-- Every run stays sound.
use Rattle.std.proofs.Common.{◌≡◌, ℕ, ◌+◌, ◌-◌, ◌<◌, ◌≤◌, Bool, true, false, cond, List, [], length, get_or, Some, None, Option, is_some, sym, ap, ◌∙◌, subst, inl, inr, refl, arith}
use Rattle.std.specs.Option.{option_map}
use Rattle.std.proofs.ByRecursion.{All-get_or}
use Rattle.std.proofs.lemmas.Bool.{cases_lt, cases_Bool, false≢true}
use Rattle.std.proofs.lemmas.List.{get_or-map, get_or_past, length-map}
use Rattle.std.proofs.lemmas.Option.{none-some}
use Rattle.files.specs.declared.plan.Stop.{Stop}
use Rattle.files.specs.Bytes.{PathFits}
use Rattle.files.specs.Rules.{path_at}
use Rattle.meetings.specs.declared.meet.First.{First}
use Rattle.meetings.specs.declared.meet.First.TheVariants.{Lower}
use Rattle.meetings.specs.declared.meet.Meeting.{Meeting}
use Rattle.meetings.specs.Meetings.{meetings}
use Rattle.orders.specs.Waits.{firsts_of}
use Rattle.plans.specs.declared.plan.Plan.{Plan}
use Rattle.plans.specs.Kept.{IsKept}
use Rattle.traffic.specs.Index.{meeting_at, no_meeting}
use Rattle.traffic.specs.Laws.{with_holds}
use Rattle.traffic.specs.Plans.{named, fresh_scene}
use Rattle.traffic.specs.Safety.{Waited}
use Rattle.traffic.specs.Scene.{Scene, Numbers, tick, moves, NoRing, OnPaths}
use Rattle.traffic.specs.Stands.{EntryTickLaws, RoundLaws, StepLaws, WaitLaws, PlanLaws}
use Rattle.traffic.specs.Tables.{AtTable}
use Rattle.traffic.specs.Ticks.{entry_ticks, IsWithin}
use Rattle.floor.specs.declared.table.Shuttle.{Shuttle}
use Rattle.floor.specs.declared.floor.calls.FloorFault.{FloorFault}
use Rattle.floor.specs.Calls.{fault_of_hold}
use Rattle.floor.specs.Laws.{FloorLaws}
use Rattle.floor.specs.Scenes.{AllPlaced}
use Rattle.floor.specs.Shuttles.{all_fresh, stop_in, hold_in, fresh}
use Rattle.floor.specs.Words.{bit}
use Rattle.floor.specs.Refused.{from_floor}
use Rattle.run.specs.Calls.{held, ticked, moved_on, ordered, fresh_on}
use Rattle.run.specs.Lawful.{LawfulFor}
use Rattle.run.specs.Laws.{FreshIsSound, HoldsKeepSound, TicksKeepSound, LawfulOrdersKeepSound, ShuttlesAreAll, AgreedIsOnPaths}
use Rattle.run.specs.Opens.{open_at}
use Rattle.run.specs.Sound.{stops_before, InForce, IsSound}
use Rattle.run.specs.State.{State, paths_on, tables_on, count_on, scene_under, scene_now}
use Rattle.run.proofs.Agreeing.{agreed_on_paths, agreed_waited}
use Rattle.run.proofs.Opening.{open_test}

-- a stop more for one that moves
abbrev pub one : Bool → ℕ
one b = cond b 1 0

-- a value that is there
pub some_value : {X : Type 0} (o : Option X) → is_some o ≡ true → (x : X) × (o ≡ Some x)
some_value None h = absurd (false≢true h)
some_value (Some x) h = (x, refl)

module _ (ticks : EntryTickLaws) (rounds : RoundLaws) (n : ℕ) (c : Scene) (within : IsWithin n c) where
  -- there are entry ticks exactly when they can be worked out
  pub ring_free : is_some (entry_ticks c n) ≡ true → NoRing c
  ring_free h = let x = some_value (entry_ticks c n) h in (x.0, (rounds.timed n c x.0 within x.1).ticks)

  pub worked_out : OnPaths c → NoRing c → is_some (entry_ticks c n) ≡ true
  worked_out on r = let x = rounds.found n c r.0 within (ticks.timed c r.0 on r.1) in ap (λ (o : Option Numbers). is_some o) x.1

module _ (plans : PlanLaws) where
  -- a shuttle that is on its path, and one that is not there
  pub placed_within : (ps : List (List Stop)) (xs : List Shuttle) → AllPlaced ps xs → (s : ℕ) → stop_in xs s ≤ length (path_at ps s) - 1
  placed_within ps xs placed s =
      elim (cases_lt s (length ps)) [
        | inl lt ↦ omega (arith, (placed.each s lt).on)
        | inr ge ↦ omega (arith, ap (λ (x : Shuttle). x.stop) (get_or_past xs s fresh (omega (arith, ge, placed.count))))
      ]

  pub shuttles_are_all : ShuttlesAreAll
  shuttles_are_all moved st orders h = plans.within (paths_on st) orders (stop_in st.shuttles) (hold_in st.shuttles) (placed_within (paths_on st) st.shuttles h.placed)

module _ (ticks : EntryTickLaws) (rounds : RoundLaws) (steps : StepLaws) (plans : PlanLaws) (floors : FloorLaws) (moved : ℕ) (st : State) (h : IsSound moved st) where
  abbrev ps : List (List Stop)
  ps = paths_on st

  abbrev orders : List (Option First)
  orders = named st.firsts

  abbrev c : Scene
  c = scene_now st

  pub no_ring : NoRing c
  no_ring = ring_free ticks rounds (count_on st) c (shuttles_are_all plans moved st orders h) h.force.no_ring

  -- what is in force in a scene on paths, without a ring
  in_force :
      (word : ℕ) (next : State) → next.plan ≡ st.plan → next.firsts ≡ st.firsts → OnPaths (scene_now next) → NoRing (scene_now next)
      → ((s : ℕ) → bit word s ≡ true → 0 < stop_in next.shuttles s) → Waited (scene_now next) (stops_before word next.shuttles) → InForce word next
  in_force word next plan firsts exist r came waited = record {
    count = ap (λ (l : List First). length l) firsts ∙ h.force.count ∙ sym (ap (λ (p : Plan). length p.meetings) plan);
    exist = exist;
    no_ring = worked_out ticks rounds (count_on next) (scene_now next) (plans.within (paths_on next) (named next.firsts) (stop_in next.shuttles) (hold_in next.shuttles) exist.within) exist r;
    came = came;
    waited = waited;
  }

  module _ (standing : ℕ) where
    abbrev next : State
    next = ticked standing st

    pub tick-scene : scene_now next ≡ tick c (bit standing)
    tick-scene = floors.ticks ps orders standing st.shuttles h.placed.count

    after : OnPaths (tick c (bit standing)) × NoRing (tick c (bit standing))
    after = ticks.ticks c (bit standing) h.force.exist no_ring

    -- each shuttle's stop, and the stop from which those that moved came
    pub on : (s : ℕ) → stop_in next.shuttles s ≡ stop_in st.shuttles s + one (moves c (bit standing) s)
    on s = ap (λ (d : Scene). d.entered s) tick-scene

    pub stood : (s : ℕ) → stop_in st.shuttles s ≡ stops_before (moved_on standing st) next.shuttles s
    stood s = omega (arith, on s, ap one (floors.word ps orders standing st.shuttles s))

    came : (s : ℕ) → bit (moved_on standing st) s ≡ true → 0 < stop_in next.shuttles s
    came s b = let m : moves c (bit standing) s ≡ true = sym (floors.word ps orders standing st.shuttles s) ∙ b in omega (arith, on s, ap one m)

    waited : Waited (scene_now next) (stops_before (moved_on standing st) next.shuttles)
    waited = subst (λ (before : ℕ → ℕ). Waited (scene_now next) before) (λ i s. stood s i) (subst (λ (d : Scene). Waited d c.entered) (sym tick-scene) (steps.ticks c (stops_before moved st.shuttles) (bit standing) h.force.waited))

    pub ticked_sound : IsSound (moved_on standing st) next
    ticked_sound = record {
      kept = h.kept;
      placed = floors.placed_ticks ps orders standing st.shuttles h.placed;
      force = in_force (moved_on standing st) next refl refl (subst OnPaths (sym tick-scene) after.0) (subst NoRing (sym tick-scene) after.1) came waited;
      tables = h.tables;
    }

  module _ (s ticks' : ℕ) (taken : fault_of_hold ps st.shuttles s ticks' ≡ None) where
    abbrev kept_on : State
    kept_on = held s ticks' st

    abbrev holds : ℕ → ℕ
    holds = hold_in kept_on.shuttles

    hold-scene : scene_now kept_on ≡ with_holds c holds
    hold-scene = floors.holds ps orders st.shuttles s ticks'

    same_stop : (r : ℕ) → stop_in kept_on.shuttles r ≡ stop_in st.shuttles r
    same_stop r = ap (λ (d : Scene). d.entered r) hold-scene

    same_before : (r : ℕ) → stops_before moved st.shuttles r ≡ stops_before moved kept_on.shuttles r
    same_before r = ap (λ k. k - one (bit moved r)) (sym (same_stop r))

    pub held_sound : IsSound moved kept_on
    held_sound = record {
      kept = h.kept;
      placed = floors.placed_holds ps st.shuttles s ticks' taken h.placed;
      force = in_force moved kept_on refl refl
          (subst OnPaths (sym hold-scene) (record { within = h.force.exist.within; awaited = h.force.exist.awaited }))
          (subst NoRing (sym hold-scene) (ticks.holds c holds h.force.exist no_ring))
          (λ r b. omega (arith, h.force.came r b, same_stop r))
          (subst (λ (before : ℕ → ℕ). Waited (scene_now kept_on) before) (λ i r. same_before r i)
          (subst (λ (d : Scene). Waited d (stops_before moved st.shuttles)) (sym hold-scene) (record { onward = h.force.waited.onward; kept = h.force.waited.kept })));
      tables = h.tables;
    }

  module _ (waits : WaitLaws) (others : List First) (l : LawfulFor st others) where
    abbrev put : State
    put = ordered others st

    lawful_on_paths : OnPaths (scene_under st (named others))
    lawful_on_paths = agreed_on_paths waits st others h.kept.listed h.force.count l.count l.agree h.force.exist

    as_listed : (j : ℕ) → j < length (meetings ps) → j < length others
    as_listed j lt = omega (arith, lt, l.count, ap (λ (ms : List Meeting). length ms) h.kept.listed)

    -- no meeting at a table is open
    table_shut : (j : ℕ) → AtTable ps (tables_on st) (meeting_at (meetings ps) j) → open_at st j ≡ false
    table_shut j there =
        elim (cases_Bool (open_at st j)) [
          | inl t ↦ absurd (((open_test st j).0 t).1.plain (subst (λ (ms : List Meeting). AtTable ps (tables_on st) (meeting_at ms j)) (sym h.kept.listed) there))
          | inr f ↦ f
        ]

    pub ordered_sound : IsSound moved put
    ordered_sound = record {
      kept = h.kept;
      placed = h.placed;
      force = record {
        count = l.count;
        exist = lawful_on_paths;
        no_ring = l.no_ring;
        came = h.force.came;
        waited = agreed_waited waits st others h.kept.listed h.force.count l.count l.agree steps (stops_before moved st.shuttles) h.force.waited;
      };
      tables = λ j lt there. l.agree j (as_listed j lt) (table_shut j there) ∙ h.tables j lt there;
    }

-- a hold that is not refused is one that the floor takes
taken_hold : (fault : Option FloorFault) → option_map from_floor fault ≡ None → fault ≡ None
taken_hold None e = refl
taken_hold (Some f) e = absurd (none-some (from_floor f) (sym e))

module _ (ticks : EntryTickLaws) (rounds : RoundLaws) (steps : StepLaws) (plans : PlanLaws) (floors : FloorLaws) where
  pub ticks_keep_sound : TicksKeepSound
  ticks_keep_sound moved st standing h = ticked_sound ticks rounds steps plans floors moved st h standing

  pub holds_keep_sound : HoldsKeepSound
  holds_keep_sound moved st s n h taken = held_sound ticks rounds steps plans floors moved st h s n (taken_hold (fault_of_hold (paths_on st) st.shuttles s n) taken)

  pub lawful_orders_keep_sound : WaitLaws → LawfulOrdersKeepSound
  lawful_orders_keep_sound waits moved st orders h l = ordered_sound ticks rounds steps plans floors moved st h waits orders l

  pub agreed_is_on_paths : WaitLaws → AgreedIsOnPaths
  agreed_is_on_paths waits moved st orders h count agree = agreed_on_paths waits st orders h.kept.listed h.force.count count agree h.force.exist

  module _ (number : ℕ) (p : Plan) (k : IsKept p) where
    abbrev fresh_state : State
    fresh_state = fresh_on number p

    abbrev paths : List (List Stop)
    paths = paths_on fresh_state

    fresh-scene : scene_now fresh_state ≡ fresh_scene paths
    fresh-scene =
        ap (λ (ms : List Meeting). scene_now (record { number = number; plan = p; shuttles = all_fresh (length paths); firsts = firsts_of ms })) k.listed
        ∙ floors.fresh paths (named (firsts_of (meetings paths))) (length paths)

    at_start : (s : ℕ) → 0 ≡ stops_before 0 fresh_state.shuttles s
    at_start s = omega (arith, ap (λ (c : Scene). c.entered s) fresh-scene)

    own_first : (j : ℕ) → j < length (meetings paths) → get_or (firsts_of p.meetings) j Lower ≡ (meeting_at (meetings paths) j).first
    own_first j lt = ap (λ (ms : List Meeting). get_or (firsts_of ms) j Lower) k.listed ∙ get_or-map (λ (m : Meeting). m.first) (meetings paths) j no_meeting Lower lt

    pub fresh_sound : IsSound 0 fresh_state
    fresh_sound =
        let law = plans.fresh paths k.rules k.clear in
        let exist : OnPaths (scene_now fresh_state) = subst OnPaths (sym fresh-scene) law.on_paths in
        record {
          kept = k;
          placed = floors.placed_fresh paths (λ s lt. (All-get_or PathFits paths s [] lt k.limits.stops).0);
          force = record {
            count = length-map p.meetings (λ (m : Meeting). m.first);
            exist = exist;
            no_ring = worked_out ticks rounds (length paths) (scene_now fresh_state) (plans.within paths (named fresh_state.firsts) (stop_in fresh_state.shuttles) (hold_in fresh_state.shuttles) exist.within) exist (subst NoRing (sym fresh-scene) law.no_ring);
            came = λ s b. absurd (false≢true (sym (floors.nobody s) ∙ b));
            waited = subst (λ (before : ℕ → ℕ). Waited (scene_now fresh_state) before) (λ i s. at_start s i) (subst (λ (c : Scene). Waited c (λ s. 0)) (sym fresh-scene) law.waited);
          };
          tables = λ j lt _. own_first j lt;
        }

  pub fresh_is_sound : FreshIsSound
  fresh_is_sound = fresh_sound
