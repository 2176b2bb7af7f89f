-- What is worked out is what the scene's entry ticks are.
use Rattle.std.proofs.Common.{◌≡◌, ℕ, ◌<◌, List, length, take, Some, None, Option, sym, refl, ◌∙◌, arith}
use Rattle.std.proofs.lemmas.List.{ext_get_or, get_or-take, length-take}
use Rattle.std.proofs.lemmas.List.FromFn.{get_or-map-range_with_len, length-map-range_with_len}
use Rattle.traffic.specs.Plans.{PlansAreWithin}
use Rattle.traffic.specs.Scene.{Numbers, at}
use Rattle.traffic.specs.Sweep.{Timed}
use Rattle.traffic.specs.Ticks.{IsWithin, EntryTicksAreTimed, TimedIsFound, entry_ticks}
use Rattle.floor.specs.declared.scene.Scene.{Scene as Under}
use Rattle.floor.specs.declared.worklist.Worklist.{Worklist}
use Rattle.floor.specs.Positions.{IsSound}
use Rattle.floor.specs.Shuttles.{stop_in, hold_in}
use Rattle.floor.specs.Times.{IsTimetable, arrivals_by}
use Rattle.floor.specs.Under.{orders_under, paths_under, scene_under, shuttles_under}
use Rattle.floor.specs.Worklists.{Tells, rows_of, ticks_in}
use Rattle.floor.proofs.Floors.{few, within}
use Rattle.floor.proofs.Standing.{rows-tick}

module _ (u : Under) (sound : IsSound u.floor.now) (plans : PlansAreWithin) where
  all_within : IsWithin (shuttles_under u) (scene_under u)
  all_within = plans (paths_under u) (orders_under u) (stop_in u.floor.now.shuttles) (hold_in u.floor.now.shuttles) (within u.floor.now sound (orders_under u))

  -- there are none where nothing is timed
  pub none_found : EntryTicksAreTimed → ((e : Numbers) → Timed (scene_under u) e → ⊥) → entry_ticks (scene_under u) (shuttles_under u) ≡ None
  none_found timed ring = go (entry_ticks (scene_under u) (shuttles_under u)) refl
    where
      go : (o : Option Numbers) → entry_ticks (scene_under u) (shuttles_under u) ≡ o → o ≡ None
      go None e = refl
      go (Some e) q = absurd (ring e (timed (shuttles_under u) (scene_under u) e all_within q))

  pub is_timetable : TimedIsFound → (w : Worklist) (arrivals : List ℕ) → length arrivals ≡ 32 → Tells u w arrivals → IsTimetable (scene_under u) (shuttles_under u) (record { rows = rows_of w; arrivals = take (shuttles_under u) arrivals })
  is_timetable found w arrivals long t =
      let c = scene_under u in
      let n = shuttles_under u in
      let f = found n c (ticks_in u w) all_within t.timed in
      let front = take n arrivals in
      let e = f.0 in
      let count : length front ≡ n = omega (arith, length-take n arrivals, long, few u.floor.now sound) in
      record {
        ticks = e;
        worked = f.1;
        each = λ s i lt le. rows-tick w (at s i) ∙ t.kept s i lt le ∙ sym (f.2 s i le);
        arrivals = ext_get_or 0 front (arrivals_by c n e) (count ∙ sym (length-map-range_with_len (λ s. e s (c.last s)) 0 n)) (λ s il.
            let lt : s < n = omega (arith, il, count) in
            get_or-take n arrivals s 0 lt ∙ t.last s lt ∙ sym (f.2 s (c.last s) (omega arith)) ∙ sym (get_or-map-range_with_len (λ r. e r (c.last r)) 0 n s s 0 lt (omega arith)));
      }
