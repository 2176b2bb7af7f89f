-- Arrivals under the orders in force, and the run's own ticks.
use Rattle.std.proofs.Common.{◌≡◌, ℕ, zero, suc, ◌-◌, ◌≤◌, [], length, get_or, Some, Option, sym, refl, ap, ◌∙◌, subst, zero-add, arith}
use Rattle.std.specs.Option.{option_map_or}
use Rattle.std.proofs.ByRecursion.{All-get_or}
use Rattle.std.proofs.lemmas.List.FromFn.{get_or-map-range_with_len}
use Rattle.files.specs.Bytes.{PathFits}
use Rattle.files.specs.Rules.{path_at}
use Rattle.plans.specs.declared.plan.Plan.{Plan}
use Rattle.traffic.specs.Plans.{named}
use Rattle.traffic.specs.Scene.{Scene, Numbers, tick, nobody, ticks}
use Rattle.traffic.specs.Stands.{EntryTickLaws, RoundLaws, StepLaws, PlanLaws}
use Rattle.traffic.specs.Ticks.{entry_ticks}
use Rattle.floor.specs.Laws.{FloorLaws}
use Rattle.floor.specs.Times.{arrivals_by}
use Rattle.floor.specs.Shuttles.{stop_in}
use Rattle.run.specs.Calls.{ticked, moved_on, after_ticks}
use Rattle.run.specs.Executions.{arrivals_now, Execution}
use Rattle.run.specs.Laws.{ArrivalsExecute}
use Rattle.run.specs.Sound.{IsSound}
use Rattle.run.specs.State.{State, paths_on, count_on, scene_now}
use Rattle.run.proofs.Sounding.{some_value, tick-scene, ticked_sound, shuttles_are_all}

-- the arrivals by the entry ticks that there are
pub arrived : (st : State) (e : Numbers) → entry_ticks (scene_now st) (count_on st) ≡ Some e → arrivals_now st ≡ arrivals_by (scene_now st) (count_on st) e
arrived st e is = ap (λ (o : Option Numbers). option_map_or (arrivals_by (scene_now st) (count_on st)) o []) is

module _ (entry : EntryTickLaws) (rounds : RoundLaws) (steps : StepLaws) (plans : PlanLaws) (floors : FloorLaws) where
  -- a sound state after some undisturbed ticks: its paths and its scene
  record After (n : ℕ) (st last : State) : Type 0 where
    moved : ℕ
    sound : IsSound moved last
    plan : last.plan ≡ st.plan
    scene : scene_now last ≡ ticks n (scene_now st)

  after : (n moved : ℕ) (st : State) → IsSound moved st → After n st (after_ticks n st)
  after zero moved st h = record { moved = moved; sound = h; plan = refl; scene = refl }
  after (suc n) moved st h =
      let r = after n (moved_on 0 st) (ticked 0 st) (ticked_sound entry rounds steps plans floors moved st h 0) in
      let first : scene_now (ticked 0 st) ≡ tick (scene_now st) nobody = tick-scene entry rounds steps plans floors moved st h 0 ∙ ap (tick (scene_now st)) (λ i s. floors.nobody s i) in
      record { moved = r.moved; sound = r.sound; plan = r.plan; scene = r.scene ∙ ap (ticks n) first }

  executed : (moved : ℕ) (st : State) (e : Numbers) → IsSound moved st → entry_ticks (scene_now st) (count_on st) ≡ Some e → Execution st (arrivals_by (scene_now st) (count_on st) e)
  executed moved st e h is n s lt =
      let c = scene_now st in
      let last = after_ticks n st in
      let a = after n moved st h in
      let within = shuttles_are_all plans moved st (named st.firsts) h in
      let timed = rounds.timed (count_on st) c e within is in
      let at_end : get_or (arrivals_by c (count_on st) e) s 0 ≡ e s (c.last s) = get_or-map-range_with_len (λ s. e s (c.last s)) 0 (count_on st) s s 0 lt (zero-add s) in
      let stop : stop_in last.shuttles s ≡ (ticks n c).entered s = ap (λ (d : Scene). d.entered s) a.scene in
      let same : length (path_at (paths_on last) s) ≡ length (path_at (paths_on st) s) = ap (λ (p : Plan). length (path_at p.paths s)) a.plan in
      let some : 1 ≤ length (path_at (paths_on st) s) = (All-get_or PathFits (paths_on st) s [] lt h.kept.limits.stops).0 in
      let on : stop_in last.shuttles s ≤ length (path_at (paths_on last) s) - 1 = a.sound.force.exist.within s in
      let by = entry.execution c e h.force.exist timed.ticks n s (c.last s) (omega arith) in
      ((λ le. let there = by.1 (omega (arith, at_end, le)) in omega (arith, there, stop, same, some, on)), (λ home. let low = by.0 (omega (arith, home, stop, same, some)) in omega (arith, at_end, low)))

  pub arrivals_execute : ArrivalsExecute
  arrivals_execute moved st h =
      let e = some_value (entry_ticks (scene_now st) (count_on st)) h.force.no_ring in
      subst (Execution st) (sym (arrived st e.0 e.1)) (executed moved st e.0 h e.1)
