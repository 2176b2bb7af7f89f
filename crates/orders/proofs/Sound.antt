-- What an opened plan gives the writer of its order file.
use Rattle.std.proofs.Common.{◌≡◌, ℕ, zero, suc, ◌<◌, ◌≤◌, List, [], ◌∷◌, length, get_or, sym, ap, subst, inl, inr, arith}
use Rattle.std.specs.List.{ContainsAt, AllByRecursion}
use Rattle.std.proofs.ByRecursion.{All-from_get_or, All-get_or, has_get_or}
use Rattle.files.specs.declared.plan.Stop.{Stop}
use Rattle.files.specs.Bytes.{PathFits}
use Rattle.meetings.specs.declared.meet.Meeting.{Meeting}
use Rattle.meetings.specs.declared.meet.TheConstants.{MOST_MEETINGS}
use Rattle.meetings.specs.declared.stays.At.{At}
use Rattle.meetings.specs.Laws.{StopOf, Meets, Earlier, Precedes, Ascending, MeetingsLaw}
use Rattle.plans.specs.Kept.{OpenedPlan, IsKept}
use Rattle.orders.specs.Waits.{FitsAt, FitsMeeting}
use Rattle.orders.proofs.Genuine.{Apart, meeting_at}
use Rattle.orders.proofs.Lengths.{Ordered}
use Rattle.orders.proofs.Zipped.{no_meeting}

pub plan_meetings : (p : OpenedPlan) → IsKept p → length p.meetings ≤ MOST_MEETINGS
plan_meetings p kept = subst (λ (l : List Meeting). length l ≤ MOST_MEETINGS) (sym kept.listed) kept.few

module _ (laws : (ps : List (List Stop)) → MeetingsLaw ps) (p : OpenedPlan) (kept : IsKept p) where
  -- what is known of each meeting
  meets : (k : ℕ) → k < length p.meetings → Meets p.paths (meeting_at p.meetings k)
  meets k lt =
      (laws p.paths).sound (meeting_at p.meetings k)
      (subst (λ (l : List Meeting). ContainsAt l (meeting_at p.meetings k)) kept.listed (has_get_or p.meetings k no_meeting lt))

  stop_fits : (a : At) → StopOf p.paths a → FitsAt a
  stop_fits a w =
      let path = All-get_or PathFits p.paths a.shuttle [] w.0 kept.limits.stops in
      (omega (arith, kept.limits.shuttles, w.0), omega (arith, path.1, w.1))

  -- the numbers of a meeting fit
  pub plan_fits : (k : ℕ) → k < length p.meetings → FitsMeeting (meeting_at p.meetings k)
  plan_fits k lt = let m = meets k lt in (stop_fits _ m.lower, stop_fits _ m.other)

  pub meetings_fit : AllByRecursion FitsMeeting p.meetings
  meetings_fit = All-from_get_or FitsMeeting p.meetings no_meeting plan_fits

  -- it is of shuttles of the plan, the lower first
  pub meetings_ordered : AllByRecursion (Ordered (length p.paths)) p.meetings
  meetings_ordered = All-from_get_or (Ordered (length p.paths)) p.meetings no_meeting (λ k lt. let m = meets k lt in (m.ordered, m.other.0))

-- and no two have the same stops
not_earlier : (a b : At) → a ≡ b → Earlier a b → ⊥
not_earlier a b e (inl l) = omega (arith, ap (λ (x : At). x.shuttle) e)
not_earlier a b e (inr l) = omega (arith, ap (λ (x : At). x.stop) e, l.1)

ascending_at : {X : Type 0} (R : X → X → Type 0) (d : X) (xs : List X) (k l : ℕ) → Ascending R xs → k < l → l < length xs → R (get_or xs k d) (get_or xs l d)
ascending_at R d [] k l a lt le = absurd (omega arith)
ascending_at R d (x ∷ xs) zero zero a lt le = absurd (omega arith)
ascending_at R d (x ∷ xs) zero (suc l) a lt le = All-get_or (R x) xs l d (omega arith) a.0
ascending_at R d (x ∷ xs) (suc k) zero a lt le = absurd (omega arith)
ascending_at R d (x ∷ xs) (suc k) (suc l) a lt le = ascending_at R d xs k l a.1 (omega arith) (omega arith)

all_apart : (ms : List Meeting) → Ascending Precedes ms → Apart ms
all_apart ms a k l lt le p q = go (ascending_at Precedes no_meeting ms k l a lt le)
  where
    go : Precedes (meeting_at ms k) (meeting_at ms l) → ⊥
    go (inl e) = not_earlier _ _ p e
    go (inr e) = not_earlier _ _ q e.1

pub meetings_apart : ((ps : List (List Stop)) → MeetingsLaw ps) → (p : OpenedPlan) → IsKept p → Apart p.meetings
meetings_apart laws p kept = all_apart p.meetings (subst (Ascending Precedes) (sym kept.listed) (laws p.paths).ordered)
