-- What is worked out in a timetable answers by the entry ticks.
use Rattle.std.proofs.Common.{◌≡◌, ◌↔◌, ℕ, Bool, true, List, Some, None, Ok, Err, Option, Result, length, IsTrue, IsErrAnd, OnOk, OnErr, is_ok, is_some, sym, refl, ap, ◌∙◌}
use Rattle.std.proofs.lemmas.Bool.{false≢true}
use Rattle.meetings.specs.declared.meet.First.{First}
use Rattle.traffic.specs.Plans.{named}
use Rattle.traffic.specs.Scene.{Scene, Numbers}
use Rattle.traffic.specs.Ticks.{entry_ticks}
use Rattle.floor.specs.Times.{Times, IsTimetable}
use Rattle.run.specs.declared.run.asks.EntryFault.{EntryFault}
use Rattle.run.specs.declared.run.asks.EntryFault.TheVariants.{Ring}
use Rattle.run.specs.Lawful.{Agrees, LawfulFor}
use Rattle.run.specs.State.{State, meetings_on, count_on, scene_under}
use Rattle.run.specs.Timing.{ring_or, TicksOf}

module _ (c : Scene) (n : ℕ) where
  pub answered_ok : (t : Times) → IsTimetable c n t → TicksOf c n (Ok tt) t
  answered_ok t k = record { answer = sym (ap ring_or k.worked); timetable = k }

  pub answered_ring : (r : Result (Unit {0}) EntryFault) (t : Times) → entry_ticks c n ≡ None → IsErrAnd r (λ why. why ≡ Ring) → TicksOf c n r t
  answered_ring (Ok x) t none m = absurd m
  answered_ring (Err why) t none m = record { answer = ap (λ w. Err w) m ∙ sym (ap ring_or none); timetable = tt }

  -- where there are entry ticks no ring is found
  pub no_ring : {E : Type 0} (r : Result (Unit {0}) E) → is_some (entry_ticks c n) ≡ true → OnErr r (entry_ticks c n ≡ None) → is_ok r ≡ true
  no_ring (Ok x) some none = refl
  no_ring (Err e) some none = absurd (false≢true (sym (ap (λ (o : Option Numbers). is_some o) none) ∙ some))

-- orders that name a first everywhere and agree with those in force are lawful exactly if there are entry ticks under them
pub judged_lawful :
    {E : Type 0} (st : State) (orders : List First) (t : Times) (r : Result (Unit {0}) E) (b : Bool)
    → b ≡ is_ok r → OnOk r (IsTimetable (scene_under st (named orders)) (count_on st) t) → OnErr r (entry_ticks (scene_under st (named orders)) (count_on st) ≡ None)
    → length orders ≡ length (meetings_on st) → Agrees st orders → IsTrue b ↔ LawfulFor st orders
judged_lawful st orders t (Ok x) b e good none count agree =
    ((λ _. record { count = count; agree = agree; no_ring = ap (λ (o : Option Numbers). is_some o) good.worked }), (λ _. e))
judged_lawful st orders t (Err f) b e good none count agree =
    ((λ yes. absurd (false≢true (sym e ∙ yes))), (λ l. absurd (false≢true (sym (ap (λ (o : Option Numbers). is_some o) none) ∙ l.no_ring))))
