-- The guesses from a genuine order file are the orders that it was written of.
use Rattle.std.proofs.Common.{◌≡◌, ℕ, ◌+◌, ◌*◌, ◌<◌, Bool, true, false, MatchBool, IsTrue, ◌↔◌, List, length, get_or, refl, sym, ◌∙◌, zero-add, subst, arith}
use Rattle.std.specs.List.{AllWithin, HoldsAt, range_with_len}
use Rattle.std.proofs.lemmas.List.FromFn.{length-range_with_len, get_or-range_with_len}
use Rattle.std.proofs.lemmas.List.{ext_get_or}
use Rattle.files.specs.declared.plan.Stop.{Stop}
use Rattle.meetings.specs.declared.meet.First.{First}
use Rattle.meetings.specs.declared.meet.First.TheVariants.{Lower}
use Rattle.meetings.specs.Joined.{JoinedLaw}
use Rattle.meetings.specs.Laws.{MeetingsLaw}
use Rattle.plans.specs.Kept.{OpenedPlan, IsKept}
use Rattle.orders.specs.declared.waits.Wait.{Wait}
use Rattle.orders.specs.Reading.{EntryIs, Lists, Guessed}
use Rattle.orders.specs.RoundTrip.{FileOf}
use Rattle.orders.proofs.Genuine.{meeting_at, guess_right}
use Rattle.orders.proofs.Sound.{meetings_ordered, meetings_apart}

pub guesses_right :
    ((ps : List (List Stop)) → MeetingsLaw ps) → JoinedLaw ℕ → (p : OpenedPlan) → IsKept p → (bs : List ℕ) (v : List First)
    → (length v ≡ length p.meetings) × ((k : ℕ) → k < length p.meetings → Guessed bs (meeting_at p.meetings k) (get_or v k Lower)) → (fs : List First) → FileOf p fs bs → v ≡ fs
guesses_right laws joins p kept bs v g fs f =
    ext_get_or Lower v fs (omega (arith, f.0, g.0)) (λ k lt.
    guess_right joins (length p.paths) p.meetings fs bs f.1 f.0 (meetings_ordered laws p kept) (meetings_apart laws p kept) k (get_or v k Lower) (omega (arith, g.0)) (g.1 k (omega (arith, g.0))))

-- a search among the entries of a body finds just what the body lists
pub lists_from :
    (bs : List ℕ) (begin n : ℕ) (w : Wait) (r : Bool)
    → MatchBool r ((k : ℕ) × (k < length (range_with_len 0 n)) × HoldsAt (λ i. EntryIs bs (begin + 6 * i) w) (range_with_len 0 n) k)
    (AllWithin (λ i. EntryIs bs (begin + 6 * i) w → ⊥) (range_with_len 0 n) 0 (length (range_with_len 0 n)))
    → IsTrue r ↔ Lists bs begin n w
lists_from bs begin n w true h =
    let lt : h.0 < n = omega (arith, length-range_with_len 0 n) in
    (λ _. (h.0, lt, subst (λ (i : ℕ). EntryIs bs (begin + 6 * i) w) (get_or-range_with_len 0 n h.0 0 lt ∙ zero-add h.0) (h.2 0)), λ _. refl)
lists_from bs begin n w false h =
    (λ e. absurd (cc), λ l. absurd (h l.0 0 (omega arith) (omega (arith, length-range_with_len 0 n)) (subst (λ (i : ℕ). EntryIs bs (begin + 6 * i) w) (sym (get_or-range_with_len 0 n l.0 0 l.1 ∙ zero-add l.0)) l.2)))
