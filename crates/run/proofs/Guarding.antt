-- A tick brings no collision, serves tables in plan order, and makes progress.
use Rattle.std.proofs.Common.{◌≡◌, ℕ, ◌+◌, ◌-◌, ◌<◌, ◌≤◌, true, List, [], length, sym, ap, ◌∙◌, subst, zero-add, arith}
use Rattle.std.specs.List.{range_with_len}
use Rattle.std.proofs.ByRecursion.{All-get_or}
use Rattle.std.proofs.lemmas.List.FromFn.{length-range_with_len, get_or-range_with_len}
use Rattle.std.proofs.lemmas.List.Sums.{sum_by-le}
use Rattle.files.specs.declared.plan.Stop.{Stop}
use Rattle.files.specs.declared.plan.TheConstants.{MOST_STOPS}
use Rattle.files.specs.Bytes.{PathFits}
use Rattle.meetings.specs.declared.meet.Meeting.{Meeting}
use Rattle.meetings.specs.declared.stays.At.{At}
use Rattle.meetings.specs.Laws.{stop_of}
use Rattle.meetings.specs.Meetings.{meetings}
use Rattle.traffic.specs.Plans.{named}
use Rattle.traffic.specs.Safety.{Settled, left}
use Rattle.traffic.specs.Scene.{Scene, tick, nobody}
use Rattle.traffic.specs.Stands.{EntryTickLaws, RoundLaws, StepLaws, PlanLaws}
use Rattle.floor.specs.declared.floor.calls.TheConstants.{LONGEST_HOLD}
use Rattle.floor.specs.Laws.{FloorLaws}
use Rattle.floor.specs.Shuttles.{stop_in, hold_in}
use Rattle.floor.specs.Words.{bit}
use Rattle.run.specs.Calls.{ticked, moved_on}
use Rattle.run.specs.Guards.{Apart, Behind, InPlanOrder, Short, left_on, KeepsOn}
use Rattle.run.specs.Laws.{SoundIsSafe, RefusedTicksAreSafe, LeftIsFew}
use Rattle.run.specs.Sound.{stops_before, IsSound}
use Rattle.run.specs.State.{State, paths_on, tables_on, count_on, scene_now}
use Rattle.run.proofs.Sounding.{one, no_ring, tick-scene, stood, ticked_sound, shuttles_are_all}

module _ (steps : StepLaws) (plans : PlanLaws) (moved : ℕ) (st : State) (h : IsSound moved st) where
  abbrev ps : List (List Stop)
  ps = paths_on st

  abbrev c : Scene
  c = scene_now st

  abbrev place : At → ℕ
  place a = (stop_of ps a).place

  as_listed : length st.firsts ≡ length (meetings ps)
  as_listed = h.force.count ∙ ap (λ (ms : List Meeting). length ms) h.kept.listed

  settled : Settled c (count_on st) place
  settled = plans.settled ps st.firsts (stop_in st.shuttles) (hold_in st.shuttles) as_listed (λ s lt. (All-get_or PathFits ps s [] lt h.kept.limits.stops).0)

  pub apart : Apart st
  apart s r w e = steps.apart c (count_on st) (stops_before moved st.shuttles) place h.force.exist settled h.force.waited s r w.one w.other w.apart e

  pub in_plan_order : InPlanOrder st
  in_plan_order = plans.tables ps (tables_on st) st.firsts (stop_in st.shuttles) (hold_in st.shuttles) (stops_before moved st.shuttles) as_listed h.tables h.force.waited

  -- of two that moved at the last tick, by where they came from
  pub followed :
      (s r : ℕ) → s < count_on st → r < count_on st → (s ≡ r → ⊥) → stops_before moved st.shuttles s < stop_in st.shuttles s → stops_before moved st.shuttles r < stop_in st.shuttles r
      → place (record { shuttle = s; stop = stops_before moved st.shuttles s }) ≡ place (record { shuttle = r; stop = stop_in st.shuttles r }) → ⊥
  followed s r ls lr ne p q e = steps.behind c (count_on st) (stops_before moved st.shuttles) place h.force.exist settled h.force.waited s r ls lr ne p q e

pub sound_is_safe : StepLaws → PlanLaws → SoundIsSafe
sound_is_safe steps plans moved st h = record {
  apart = apart steps plans moved st h;
  followed = λ s r w came gone e. followed steps plans moved st h s r w.one w.other w.apart (back s came) (back r gone) e;
  tables = in_plan_order steps plans moved st h;
}
  where
    -- one that moved was elsewhere before
    back : (s : ℕ) → bit moved s ≡ true → stops_before moved st.shuttles s < stop_in st.shuttles s
    back s b = omega (arith, h.force.came s b, ap one b)

-- a shuttle has 63 stops and 4,095 hold ticks left at most
pub left_is_few : LeftIsFew
left_is_few moved st h =
    let c = scene_now st in
    let most = sum_by-le (λ (s : ℕ). (c.last s - c.entered s) + c.hold s) (MOST_STOPS + LONGEST_HOLD) (range_with_len 0 (count_on st)) (λ k d lt.
    let low : k < count_on st = omega (arith, lt, length-range_with_len 0 (count_on st)) in
    let here = h.placed.each k low in
    let long = (All-get_or PathFits (paths_on st) k [] low h.kept.limits.stops).1 in
    let e = get_or-range_with_len 0 (count_on st) k d low ∙ zero-add k in
    subst (λ s. (c.last s - c.entered s) + c.hold s ≤ MOST_STOPS + LONGEST_HOLD) (sym e) (omega (arith, here.short, long))) in
    omega (arith, most, length-range_with_len 0 (count_on st), h.kept.limits.shuttles)

pub keeps_still : StepLaws → PlanLaws → RefusedTicksAreSafe
keeps_still steps plans moved st standing h some =
    let here = apart steps plans moved st h in
    let served = in_plan_order steps plans moved st h in
    record {
      apart_before = here;
      apart_after = here;
      behind = λ s r w p q e. omega (arith, p);
      tables_before = served;
      tables_after = served;
      never = omega arith;
      falls = λ z s short. absurd (some z);
    }

module _ (ticks : EntryTickLaws) (rounds : RoundLaws) (steps : StepLaws) (plans : PlanLaws) (floors : FloorLaws) (moved : ℕ) (st : State) (standing : ℕ) (h : IsSound moved st) where
  abbrev next : State
  next = ticked standing st

  next_sound : IsSound (moved_on standing st) next
  next_sound = ticked_sound ticks rounds steps plans floors moved st h standing

  scene : scene_now next ≡ tick (scene_now st) (bit standing)
  scene = tick-scene ticks rounds steps plans floors moved st h standing

  came : (s : ℕ) → stop_in st.shuttles s ≡ stops_before (moved_on standing st) next.shuttles s
  came s = stood ticks rounds steps plans floors moved st h standing s

  behind : Behind st next
  behind s r w p q e =
      followed steps plans (moved_on standing st) next next_sound s r w.one w.other w.apart
      (subst (λ k. k < stop_in next.shuttles s) (came s) p)
      (subst (λ k. k < stop_in next.shuttles r) (came r) q)
      (ap (λ k. (stop_of (paths_on st) (record { shuttle = s; stop = k })).place) (sym (came s)) ∙ e)

  no_more : left_on next ≤ left_on st
  no_more = subst (λ (d : Scene). left d (count_on st) ≤ left_on st) (sym scene) (steps.never (scene_now st) (bit standing) (count_on st))

  falls : standing ≡ 0 → (s : ℕ) → Short st s → left_on next < left_on st
  falls z s short =
      let who : tick (scene_now st) (bit standing) ≡ tick (scene_now st) nobody = ap (tick (scene_now st)) (λ i r. (ap (λ w. bit w r) z ∙ floors.nobody r) i) in
      subst (λ (d : Scene). left d (count_on st) < left_on st) (sym (scene ∙ who))
      (steps.fall (scene_now st) (count_on st) h.force.exist (no_ring ticks rounds steps plans floors moved st h) (shuttles_are_all plans moved st (named st.firsts) h).awaited s short.0 (omega (arith, short.1)))

  pub keeps_tick : KeepsOn standing st next
  keeps_tick = record {
    apart_before = apart steps plans moved st h;
    apart_after = apart steps plans (moved_on standing st) next next_sound;
    behind = behind;
    tables_before = in_plan_order steps plans moved st h;
    tables_after = in_plan_order steps plans (moved_on standing st) next next_sound;
    never = no_more;
    falls = falls;
  }
