-- The beginning: every shuttle is where it stands, and nothing is looked at.
use Rattle.std.proofs.Common.{◌≡◌, ℕ, suc, ◌+◌, ◌-◌, ◌<◌, ◌≤◌, cond, eqb, List, get_or, set, refl, sym, ap, ◌∙◌, subst, inl, inr, arith}
use Rattle.std.specs.Int.{bit_at}
use Rattle.std.proofs.lemmas.Bool.{cases_eq, cases_lt, cond-true, le-leb, eq-eqb}
use Rattle.std.proofs.lemmas.List.{get_or_past, get_or-set_same, get_or-set_other}
use Rattle.traffic.specs.Scene.{at, own}
use Rattle.traffic.specs.Sweep.{SweepsStart}
use Rattle.floor.specs.declared.scene.Scene.{Scene as Under}
use Rattle.floor.specs.declared.table.Shuttle.{Shuttle}
use Rattle.floor.specs.declared.worklist.Entry.{Entry}
use Rattle.floor.specs.declared.worklist.Progress.{Progress}
use Rattle.floor.specs.declared.worklist.Worklist.{Worklist}
use Rattle.floor.specs.Positions.{IsSound}
use Rattle.floor.specs.Shuttles.{fresh, shuttle_at, stop_in, hold_in}
use Rattle.floor.specs.Under.{orders_under, scene_under, shuttles_under}
use Rattle.floor.specs.Worklists.{Cared, Going, Looked, LookedFor, Shaped, Stands, begun, entry_of, known_in, next_in, own_in, progress_of, ticks_in}
use Rattle.floor.proofs.Entering.{known_there, known_past}
use Rattle.floor.proofs.Floors.{count, within}

-- the first k shuttles are where they stand
pub record Begun (xs : List Shuttle) (k : ℕ) (w : Worklist) : Type 0 where
  pub shaped : Shaped w
  pub progress : (s : ℕ) → s < k → progress_of w s ≡ begun (shuttle_at xs s)
  pub entered : (s i : ℕ) → s < k → i ≤ stop_in xs s → (entry_of w (at s i)).tick ≡ 0

pub begun_more : (xs : List Shuttle) (k : ℕ) (w w' : Worklist) (x : Shuttle) → x ≡ shuttle_at xs k → k < 32 → Begun xs k w → Stands k x w w' → Begun xs (k + 1) w'
begun_more xs k w w' x is low b h = record {
  shaped = h.shaped;
  progress = λ s lt.
      ap (λ (l : List Progress). get_or l s (record { stop = 0; seen = 0; latest = 0 })) h.progress
      ∙ elim (cases_eq s k) [
        | inl e ↦ subst (λ z. get_or (set w.progress k (begun x)) z (record { stop = 0; seen = 0; latest = 0 }) ≡ begun (shuttle_at xs z)) (sym e) (get_or-set_same w.progress k (begun x) _ (omega (arith, low, b.shaped.progress)) ∙ ap begun is)
        | inr ne ↦ get_or-set_other w.progress k s (begun x) _ ne ∙ b.progress s (omega (arith, lt, ne))
      ];
  entered = λ s i lt le. elim (cases_eq s k) [
    | inl e ↦ subst (λ z. (entry_of w' (at z i)).tick ≡ 0) (sym e) (h.entered i (subst (λ n. i ≤ n) (sym (ap (λ (y : Shuttle). y.stop) is)) (subst (λ z. i ≤ stop_in xs z) e le)))
    | inr ne ↦ ap (λ (y : Entry). y.tick) (h.others (at s i) ne) ∙ b.entered s i (omega (arith, lt, ne)) le
  ];
}

module _ (u : Under) (sound : IsSound u.floor.now) (w : Worklist) (b : Begun u.floor.now.shuttles (shuttles_under u) w) where
  abbrev xs : List Shuttle
  xs = u.floor.now.shuttles

  known_start : (s : ℕ) → known_in u w s ≡ suc ((scene_under u).entered s)
  known_start s = elim (cases_lt s (shuttles_under u)) [
    | inl l ↦ known_there u w s l ∙ ap (λ (p : Progress). suc p.stop) (b.progress s l)
    | inr g ↦ known_past u w s g ∙ sym (ap (λ (x : Shuttle). suc x.stop) (get_or_past xs s fresh (omega (arith, g, count u.floor.now sound))))
  ]

  none : (s i : ℕ) → i ≤ (scene_under u).entered s → ticks_in u w s i ≡ 0
  none s i le = cond-true _ _ _ (le-leb i ((scene_under u).entered s) le)

  pub going_start : SweepsStart → Going u w
  going_start start = record {
    shaped = b.shaped;
    sofar = start (scene_under u) (known_in u w) (ticks_in u w) (within u.floor.now sound (orders_under u)) known_start none;
    past = b.entered;
    small = λ s i lt. omega (arith, none s i (omega (arith, lt, known_start s)));
  }

  looked_start : (s : ℕ) → s < shuttles_under u → LookedFor u w s
  looked_start s lt =
      let back : known_in u w s - 1 ≡ (scene_under u).entered s = omega (arith, known_start s) in
      let on : cond (eqb ((scene_under u).entered s) ((scene_under u).entered s)) ((scene_under u).hold s) 0 ≡ (scene_under u).hold s = cond-true _ _ _ (eq-eqb ((scene_under u).entered s) ((scene_under u).entered s) refl) in
      let mine : own_in u w (next_in u w s) ≡ hold_in xs s = ap (own (scene_under u) (ticks_in u w) s) back ∙ (omega (arith, none s ((scene_under u).entered s) (omega arith), on)) in
      subst (λ (p : Progress). Looked u w (next_in u w s) p.seen p.latest) (sym (b.progress s lt)) (record { all = tt; is = omega (arith, mine) })

  pub cared_start : ((s : ℕ) → s < shuttles_under u → bit_at w.ready s ≡ 1) → (s : ℕ) → s < shuttles_under u → Cared u w s
  cared_start ready s lt = inr (looked_start s lt, inl (ready s lt))
