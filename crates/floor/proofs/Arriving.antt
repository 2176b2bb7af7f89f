-- The end: every shuttle is home, or there is a ring.
use Rattle.std.proofs.Common.{◌≡◌, ℕ, ◌+◌, ◌<◌, ◌≤◌, List, length, get_or, set, ◌∙◌, subst, inl, inr, arith}
use Rattle.std.proofs.lemmas.Bool.{cases_lt}
use Rattle.std.proofs.lemmas.List.{get_or-set_same, get_or-set_other}
use Rattle.traffic.specs.Scene.{Numbers, at}
use Rattle.traffic.specs.Sweep.{SweepsEnd, SweepsRing, Timed}
use Rattle.floor.specs.declared.scene.Scene.{Scene as Under}
use Rattle.floor.specs.declared.worklist.Worklist.{Worklist}
use Rattle.floor.specs.Under.{scene_under, shuttles_under}
use Rattle.floor.specs.Worklists.{Cared, Going, Tells, known_in, ticks_in}
use Rattle.floor.proofs.Entering.{known_past}
use Rattle.floor.proofs.Looking.{kept_tick}
use Rattle.floor.proofs.Taking.{cared_stuck, past_home}

-- one number more in a list
pub filled_more : (f : ℕ → ℕ) (l : List ℕ) (n v : ℕ) → n < length l → ((s : ℕ) → s < n → get_or l s 0 ≡ f s) → v ≡ f n → (s : ℕ) → s < n + 1 → get_or (set l n v) s 0 ≡ f s
filled_more f l n v lt h is s below = elim (cases_lt s n) [
  | inl d ↦ get_or-set_other l n s v 0 (omega (arith, d)) ∙ h s d
  | inr g ↦ (let same : n ≡ s = omega (arith, below, g) in subst (λ r. get_or (set l n v) r 0 ≡ f r) same (get_or-set_same l n v 0 lt ∙ is))
]

-- and of what holds of the first n
pub home_more : (P : ℕ → Type 0) (n : ℕ) → ((s : ℕ) → s < n → P s) → P n → (s : ℕ) → s < n + 1 → P s
home_more P n h here s below = elim (cases_lt s n) [
  | inl d ↦ h s d
  | inr g ↦ (let same : n ≡ s = omega (arith, below, g) in subst P same here)
]

module _ (u : Under) (w : Worklist) (g : Going u w) where
  pub tells : SweepsEnd → (arrivals : List ℕ) → ((s : ℕ) → s < shuttles_under u → (scene_under u).last s < known_in u w s) → ((s : ℕ) → s < shuttles_under u → get_or arrivals s 0 ≡ ticks_in u w s ((scene_under u).last s)) → Tells u w arrivals
  tells end arrivals home last = record {
    timed = end (scene_under u) (known_in u w) (ticks_in u w) g.sofar (λ s. elim (cases_lt s (shuttles_under u)) [
      | inl l ↦ home s l
      | inr past ↦ omega (arith, known_past u w s past, past_home u s past)
    ]);
    kept = λ s i lt le. kept_tick u w g (at s i) lt;
    last = last;
  }

  pub ringed : SweepsRing → w.ready ≡ 0 → ((s : ℕ) → s < shuttles_under u → Cared u w s) → (s : ℕ) → known_in u w s ≤ (scene_under u).last s → (e : Numbers) → Timed (scene_under u) e → ⊥
  ringed ring none cared s short = ring (scene_under u) (known_in u w) (ticks_in u w) s g.sofar short (λ r le ready. elim (cases_lt r (shuttles_under u)) [
    | inl l ↦ cared_stuck u w r none (cared r l) le ready
    | inr past ↦ omega (arith, known_past u w r past, past_home u r past, le)
  ])
