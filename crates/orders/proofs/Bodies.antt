-- The bytes of a shuttle's waits, wait by wait and shuttle by shuttle.
use Rattle.std.proofs.Common.{◌≡◌, ℕ, ◌*◌, List, [], ◌∷◌, ◌++◌, length, refl, ap, arith}
use Rattle.std.specs.List.{flat_map}
use Rattle.std.proofs.lemmas.Bool.{cond-true, cond-false, eq-eqb, ne_eqb}
use Rattle.meetings.specs.declared.meet.First.{First}
use Rattle.meetings.specs.declared.meet.First.TheVariants.{Lower, Other}
use Rattle.meetings.specs.declared.meet.Meeting.{Meeting}
use Rattle.orders.specs.declared.waits.Wait.{Wait}
use Rattle.orders.specs.File.{wait_bytes, body_bytes, FitsWait}
use Rattle.orders.specs.Waits.{wait_under, is_second, FitsMeeting}

pub wait_fits : (m : Meeting) (f : First) → FitsMeeting m → FitsWait (wait_under m f)
wait_fits m Lower h = (omega arith, h.0.0, h.0.1)
wait_fits m Other h = (omega arith, h.1.0, h.1.1)

pub length-wait_bytes : (ws : List Wait) → length (flat_map wait_bytes ws) ≡ 6 * length ws
length-wait_bytes [] = refl
length-wait_bytes (w ∷ ws) = let e = length-wait_bytes ws in omega arith

-- the bytes of a shuttle's body begin with those of its first wait
pub body_own : (s : ℕ) (w : Wait) (ws : List Wait) → w.second.shuttle ≡ s → body_bytes (w ∷ ws) s ≡ wait_bytes w ++ body_bytes ws s
body_own s w ws e = ap (flat_map wait_bytes) (cond-true (is_second s w) _ _ (eq-eqb _ _ e))

-- and none are of a wait of another
pub body_other : (s : ℕ) (w : Wait) (ws : List Wait) → (w.second.shuttle ≡ s → ⊥) → body_bytes (w ∷ ws) s ≡ body_bytes ws s
body_other s w ws n = ap (flat_map wait_bytes) (cond-false (is_second s w) _ _ (ne_eqb _ _ n))
