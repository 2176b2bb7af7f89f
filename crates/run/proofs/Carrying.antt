-- Calls that the floor carries out or refuses, as calls on a run.
use Rattle.std.proofs.Common.{◌≡◌, ℕ, ◌^◌, length, Some, None, Ok, Err, Option, Result, MatchResult, IsErrAnd, sym, refl, ap, ◌∙◌, subst}
use Rattle.std.specs.Option.{option_map}
use Rattle.std.proofs.lemmas.Bool.{cond-true, lt-ltb}
use Rattle.std.proofs.lemmas.Nat.{pow_pos}
use Rattle.std.proofs.lemmas.Option.{none-some}
use Rattle.floor.specs.declared.floor.calls.FloorFault.{FloorFault}
use Rattle.floor.specs.Calls.{judged, unless, fault_of_hold, tick_fault}
use Rattle.floor.specs.Positions.{Position}
use Rattle.floor.specs.Positions as position
use Rattle.traffic.specs.Plans.{named}
use Rattle.refusals.specs.declared.Refusal.{Refusal}
use Rattle.floor.specs.Refused.{from_floor}
use Rattle.run.specs.Calls.{tick_refusal, ticked, moved_on}
use Rattle.run.specs.Guards.{KeepsOn}
use Rattle.run.specs.Laws.{RunLaws}
use Rattle.run.specs.Sound.{RunsSoundly}
use Rattle.run.specs.State.{State, paths_on}

-- a state whose shuttles are elsewhere
abbrev pub with_position : State → Position → State
with_position st p = record { number = st.number; plan = p.plan; shuttles = p.shuttles; firsts = st.firsts }

abbrev pub position_on : State → Position
position_on st = record { plan = st.plan; shuttles = st.shuttles }

-- an answer of the floor, and the same with its fault as a refusal
abbrev Mapped : {X : Type 0} → (FloorFault → Refusal → Type 0) → Result X FloorFault → Result X Refusal → Type 0
Mapped P r s = MatchResult r (λ x. s ≡ Ok x) (λ f. IsErrAnd s (P f))

module _ (X : Type 0) (P : FloorFault → Refusal → Type 0) (is : (f : FloorFault) (why : Refusal) → P f why → why ≡ from_floor f) (answer : X) where
  by_fault : (fault : Option FloorFault) (s : Result X Refusal) → Mapped P (judged fault answer) s → s ≡ judged (option_map from_floor fault) answer
  by_fault None s m = m
  by_fault (Some f) (Ok x) m = absurd m
  by_fault (Some f) (Err why) m = ap (λ w. Err w) (is f why m)

  pub told : (fault : Option FloorFault) (r : Result X FloorFault) (s : Result X Refusal) → r ≡ judged fault answer → Mapped P r s → s ≡ judged (option_map from_floor fault) answer
  told fault r s e m = by_fault fault s (subst (λ (r : Result X FloorFault). Mapped P r s) e m)

module _ (laws : RunLaws) (st : State) (sound : RunsSoundly st) where
  pub after_hold : (s n : ℕ) (new : Position) → new ≡ unless (fault_of_hold (paths_on st) st.shuttles s n) (position.held s n (position_on st)) (position_on st) → RunsSoundly (with_position st new)
  after_hold s n new e = go (fault_of_hold (paths_on st) st.shuttles s n) refl e
    where
      go : (fault : Option FloorFault) → fault_of_hold (paths_on st) st.shuttles s n ≡ fault → new ≡ unless fault (position.held s n (position_on st)) (position_on st) → RunsSoundly (with_position st new)
      go None f e = subst (λ p. RunsSoundly (with_position st p)) (sym e) (sound.0, laws.holds sound.0 st s n sound.1 (ap (option_map from_floor) f))
      go (Some why) f e = subst (λ p. RunsSoundly (with_position st p)) (sym e) sound

  -- what a tick leaves: the state after it, or the same one
  abbrev after_tick : ℕ → Option FloorFault → Position
  after_tick standing fault = unless fault (position.ticked (named st.firsts) standing (position_on st)) (position_on st)

  pub ticked_soundly : (standing : ℕ) (new : Position) → new ≡ after_tick standing (tick_fault (paths_on st) standing) → RunsSoundly (with_position st new)
  ticked_soundly standing new e = go (tick_fault (paths_on st) standing) e
    where
      go : (fault : Option FloorFault) → new ≡ after_tick standing fault → RunsSoundly (with_position st new)
      go None e = subst (λ p. RunsSoundly (with_position st p)) (sym e) (moved_on standing st, laws.ticks sound.0 st standing sound.1)
      go (Some why) e = subst (λ p. RunsSoundly (with_position st p)) (sym e) sound

  -- a refused tick names a shuttle
  named_somebody : (standing : ℕ) (why : FloorFault) → tick_fault (paths_on st) standing ≡ Some why → standing ≡ 0 → ⊥
  named_somebody standing why f z = none-some why (sym (ap (tick_fault (paths_on st)) z ∙ cond-true _ _ _ (lt-ltb 0 (2 ^ length (paths_on st)) (pow_pos (length (paths_on st))))) ∙ f)

  pub ticked_safely : (standing : ℕ) (new : Position) → new ≡ after_tick standing (tick_fault (paths_on st) standing) → KeepsOn standing st (with_position st new)
  ticked_safely standing new e = go (tick_fault (paths_on st) standing) refl e
    where
      go : (fault : Option FloorFault) → tick_fault (paths_on st) standing ≡ fault → new ≡ after_tick standing fault → KeepsOn standing st (with_position st new)
      go None f e = subst (λ p. KeepsOn standing st (with_position st p)) (sym e) (laws.safe sound.0 st standing sound.1)
      go (Some why) f e = subst (λ p. KeepsOn standing st (with_position st p)) (sym e) (laws.still sound.0 st standing sound.1 (named_somebody standing why f))

pub ticked_state :
    (st : State) (standing : ℕ) (new : Position) → new ≡ unless (tick_fault (paths_on st) standing) (position.ticked (named st.firsts) standing (position_on st)) (position_on st)
    → Some (with_position st new) ≡ unless (tick_refusal standing st) (Some (ticked standing st)) (Some st)
ticked_state st standing new e = go (tick_fault (paths_on st) standing) e
  where
    go : (fault : Option FloorFault) → new ≡ unless fault (position.ticked (named st.firsts) standing (position_on st)) (position_on st) → Some (with_position st new) ≡ unless (option_map from_floor fault) (Some (ticked standing st)) (Some st)
    go None e = ap (λ p. Some (with_position st p)) e
    go (Some why) e = ap (λ p. Some (with_position st p)) e
