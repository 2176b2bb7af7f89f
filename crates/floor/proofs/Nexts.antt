-- What the next stop is, where there is one.
use Rattle.std.proofs.Common.{◌≡◌, ℕ, suc, ◌<◌, ◌≤◌, Bool, true, false, cond, ltb, Some, None, Option, refl}
use Rattle.std.proofs.lemmas.Bool.{ltb-true, ltb-false}
use Rattle.std.proofs.lemmas.Option.{same_Some}
use Rattle.meetings.specs.declared.stays.At.{At}
use Rattle.traffic.specs.Scene.{at}
use Rattle.floor.specs.Next.{next_after}

module _ (a : At) (stops : ℕ) where
  pub next_is : (b : At) → Some b ≡ next_after a stops → (b ≡ at a.shuttle (suc a.stop)) × (suc a.stop < stops)
  next_is b e = go (ltb (suc a.stop) stops) refl e
    where
      go : (k : Bool) → ltb (suc a.stop) stops ≡ k → Some b ≡ cond k (Some (at a.shuttle (suc a.stop))) None → (b ≡ at a.shuttle (suc a.stop)) × (suc a.stop < stops)
      go true k q = (same_Some _ _ q, ltb-true (suc a.stop) stops k)
      go false k q = cc

  pub next_none : (o : Option At) → o ≡ next_after a stops → ((b : At) → o ≡ Some b → ⊥) → stops ≤ suc a.stop
  next_none o e none = go (ltb (suc a.stop) stops) refl e
    where
      go : (k : Bool) → ltb (suc a.stop) stops ≡ k → o ≡ cond k (Some (at a.shuttle (suc a.stop))) None → stops ≤ suc a.stop
      go true k q = absurd (none _ q)
      go false k q = ltb-false (suc a.stop) stops k
