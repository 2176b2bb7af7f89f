-- Safety of one step.
use Rattle.std.proofs.Common.{◌≡◌, ℕ, suc, ◌+◌, ◌≤◌, Bool, true, false, cond, refl, subst, ⊎_elim, arith}
use native.Mathlib.Decide.{dec_le}
use Rattle.std.specs.List.{ContainsAt, AllByRecursion}
use Rattle.std.proofs.ByRecursion.{All-weaker, all-has}
use Rattle.traffic.specs.Safety.{TicksKeepWaits, ChangesKeepWaits, NoTwoInOnePlace, NoneFollows}
use Rattle.traffic.specs.Scene.{at, moves}
use Rattle.traffic.proofs.Ranking.{moved}

pub ticks_keep_waits : TicksKeepWaits
ticks_keep_waits c before stands w = record { onward = λ s. omega arith; kept = λ s i p. go s i (moves c stands s) refl p }
  where
    old : (s i : ℕ) → i ≤ c.entered s → AllByRecursion (λ b. b.stop ≤ c.entered b.shuttle) (c.waits (at s i))
    old s i p = All-weaker _ _ (λ b h. omega (arith, h, w.onward b.shuttle)) (c.waits (at s i)) (w.kept s i p)

    go : (s i : ℕ) (t : Bool) → moves c stands s ≡ t → i ≤ c.entered s + cond t 1 0 → AllByRecursion (λ b. b.stop ≤ c.entered b.shuttle) (c.waits (at s i))
    go s i true m p =
        elim (dec_le i (c.entered s)) [
          | yes q ↦ old s i q
          | no q ↦ (let e : suc (c.entered s) ≡ i = omega arith in subst (λ k. AllByRecursion (λ b. b.stop ≤ c.entered b.shuttle) (c.waits (at s k))) e (moved c stands s m).ready)
        ]
    go s i false m p = old s i (omega arith)

pub changes_keep_waits : ChangesKeepWaits
changes_keep_waits c before waits same w = record {
  onward = w.onward;
  kept = λ s i p. All-weaker (ContainsAt (c.waits (at s i))) _ (λ b h. all-has (λ b. b.stop ≤ before b.shuttle) (c.waits (at s i)) b (w.kept s i p) h) (waits (at s i)) (same s i p);
}

pub no_two_in_one_place : NoTwoInOnePlace
no_two_in_one_place c n before place on settled w s r sn rn ne same =
    let i = c.entered s in
    let j = c.entered r in
    ⊎_elim
    (λ h. let l : suc j ≤ before r = all-has (λ b. b.stop ≤ before b.shuttle) (c.waits (at s i)) (at r (suc j)) (w.kept s i (omega arith)) h in omega (arith, w.onward r))
    (λ h. let l : suc i ≤ before s = all-has (λ b. b.stop ≤ before b.shuttle) (c.waits (at r j)) (at s (suc i)) (w.kept r j (omega arith)) h in omega (arith, w.onward s))
    (settled s r i j sn rn ne (on.within s) (on.within r) same)

pub none_follows : NoneFollows
none_follows c n before place on settled w s r sn rn ne left came same =
    let i = before s in
    let j = c.entered r in
    ⊎_elim
    (λ h. let l : suc j ≤ before r = all-has (λ b. b.stop ≤ before b.shuttle) (c.waits (at s i)) (at r (suc j)) (w.kept s i (omega arith)) h in omega arith)
    (λ h. let l : suc i ≤ before s = all-has (λ b. b.stop ≤ before b.shuttle) (c.waits (at r j)) (at s (suc i)) (w.kept r j (omega arith)) h in omega arith)
    (settled s r i j sn rn ne (omega (arith, on.within s)) (on.within r) same)
