-- A shuttle that may go on is taken; and where none may, each is home or has to wait.
use Rattle.std.proofs.Common.{◌≡◌, ℕ, ◌+◌, ◌-◌, ◌*◌, ◌%◌, ◌^◌, ◌<◌, ◌≤◌, ◌⊎◌, List, [], length, bit_and, ap, ◌∙◌, inl, inr, arith}
use Rattle.std.specs.Int.{bit_at}
use Rattle.std.specs.Int.Bits.{bit_xor, xor_add_and}
use Rattle.std.proofs.ByRecursion.{all-has}
use Rattle.std.proofs.lemmas.Bool.{cases_lt}
use Rattle.std.proofs.lemmas.List.{get_or_past}
use Rattle.std.proofs.lemmas.Nat.{one_shl, pow_pos}
use Rattle.std.proofs.lemmas.Nat.Bits.{and_pow, bit_at-pow_other, bit_at-zero, bit_at_xor}
use Rattle.files.specs.declared.plan.Stop.{Stop}
use Rattle.traffic.specs.Sweep.{Ready}
use Rattle.floor.specs.declared.scene.Scene.{Scene as Under}
use Rattle.floor.specs.declared.worklist.Worklist.{Worklist}
use Rattle.floor.specs.Under.{paths_under, scene_under, shuttles_under}
use Rattle.floor.specs.Worklists.{Cared, Going, LookedFor, Noted, known_in, next_in, work}
use Rattle.floor.proofs.Entering.{known_past}

module _ (w s : ℕ) (low : s < 32) (set_here : bit_at w s ≡ 1) where
  abbrev mask : ℕ
  mask = 1 * 2 ^ s % 2 ^ 32

  mask_is : mask ≡ 2 ^ s
  mask_is = omega (arith, one_shl s 32 low)

  pub taken_less : bit_xor w mask + 2 ^ s ≡ w
  taken_less =
      let both : bit_and w mask ≡ 1 * 2 ^ s = ap (bit_and w) mask_is ∙ and_pow w s ∙ ap (λ b. b * 2 ^ s) set_here in
      omega (arith, xor_add_and w mask, both, mask_is)

  taken_other : (r : ℕ) → (r ≡ s → ⊥) → bit_at w r ≡ 1 → bit_at (bit_xor w mask) r ≡ 1
  taken_other r ne h =
      let other : bit_at mask r ≡ 0 = ap (λ m. bit_at m r) mask_is ∙ bit_at-pow_other s r ne in
      omega (arith, bit_at_xor w mask r, h, other)

module _ (u : Under) (w : Worklist) (s : ℕ) (low : s < 32) (set_here : bit_at w.ready s ≡ 1) where
  abbrev taken : Worklist
  taken = record { entries = w.entries; progress = w.progress; ready = bit_xor w.ready (1 * 2 ^ s % 2 ^ 32) }

  pub going_taken : Going u w → Going u taken
  going_taken g = record { shaped = record { rows = g.shaped.rows; wide = g.shaped.wide; progress = g.shaped.progress }; sofar = g.sofar; past = g.past; small = g.small }

  ready_or_noted_still : (r : ℕ) → (r ≡ s → ⊥) → (bit_at w.ready r ≡ 1) ⊎ Noted u w r → (bit_at taken.ready r ≡ 1) ⊎ Noted u taken r
  ready_or_noted_still r ne (inl b) = inl (taken_other w.ready s low set_here r ne b)
  ready_or_noted_still r ne (inr n) = inr (record { by = n.by; held = record { shuttle = n.held.shuttle; unknown = n.held.unknown; waits = n.held.waits }; bit = n.bit })

  pub cared_taken : (r : ℕ) → (r ≡ s → ⊥) → Cared u w r → Cared u taken r
  cared_taken r ne (inl h) = inl h
  cared_taken r ne (inr c) = inr (c.0, ready_or_noted_still r ne c.1)

  pub less_taken : w.ready < 2 ^ 32 → work u taken < work u w
  less_taken fits = omega (arith, taken_less w.ready s low set_here, pow_pos s, fits)

-- what a shuttle has looked at, unless it is home, as one that is not in the plan is
looked_cared : (u : Under) (w : Worklist) (s : ℕ) → Cared u w s → known_in u w s ≤ (scene_under u).last s → LookedFor u w s
looked_cared u w s (inl h) le = absurd (omega (arith, h, le))
looked_cared u w s (inr c) le = c.0

pub past_home : (u : Under) (s : ℕ) → shuttles_under u ≤ s → (scene_under u).last s ≡ 0
past_home u s le = ap (λ (path : List Stop). length path - 1) (get_or_past (paths_under u) s [] le)

pub cared_looked : (u : Under) (w : Worklist) (s : ℕ) → ((r : ℕ) → r < shuttles_under u → Cared u w r) → known_in u w s ≤ (scene_under u).last s → LookedFor u w s
cared_looked u w s cared le = elim (cases_lt s (shuttles_under u)) [
  | inl l ↦ looked_cared u w s (cared s l) le
  | inr g ↦ absurd (omega (arith, known_past u w s g, past_home u s g, le))
]

-- where none may go on, a shuttle that is not home waits for what is not known
pub cared_stuck : (u : Under) (w : Worklist) (s : ℕ) → w.ready ≡ 0 → Cared u w s → known_in u w s ≤ (scene_under u).last s → Ready (known_in u w) ((scene_under u).waits (next_in u w s)) → ⊥
cared_stuck u w s none (inl h) le r = omega (arith, h, le)
cared_stuck u w s none (inr c) le r = go c.1
  where
    go : (bit_at w.ready s ≡ 1) ⊎ Noted u w s → ⊥
    go (inl b) = omega (arith, b, ap (λ v. bit_at v s) none, bit_at-zero s)
    go (inr n) = omega (arith, n.held.unknown, all-has _ _ n.by r n.held.waits)
