-- What is worked out at a node is the finding there.
use Rattle.std.proofs.Common.{◌≡◌, ℕ, suc, ◌-◌, ◌<◌, ◌≤◌, not, ◌&&◌, nat_lt, List, [], length, slice_index, Some, None, Ok, Err, Option, Result, IsOk, IsErr, OnOk, unwrap_or, sym, refl, ap, ap₂, ◌∙◌, inl, inr, subst, zero-add, arith}
use Rattle.std.specs.List.{refill}
use Rattle.std.specs.Option.{option_map}
use Rattle.std.proofs.lemmas.Bool.{cases_lt}
use Rattle.std.proofs.lemmas.List.{get_or_past, take_at}
use Rattle.std.proofs.lemmas.List.FromFn.{length-map-range_with_len, get_or-map-range_with_len}
use Rattle.files.specs.declared.plan.Stop.{Stop}
use Rattle.files.specs.Rules.{path_at}
use Rattle.meetings.specs.declared.meet.First.{First}
use Rattle.meetings.specs.declared.meet.First.TheVariants.{Lower, Other}
use Rattle.meetings.specs.declared.meet.Meeting.{Meeting}
use Rattle.meetings.specs.declared.stays.At.{At}
use Rattle.orders.specs.Waits.{wait_under}
use Rattle.search.specs.declared.finding.Finding.TheVariants.{Ring}
use Rattle.costs.specs.Totals.{total}
use Rattle.traffic.specs.Index.{meeting_at}
use Rattle.traffic.specs.Scene.{Scene, Numbers, number}
use Rattle.traffic.specs.Ticks.{entry_ticks}
use Rattle.floor.specs.Times.{Times}
use Rattle.floor.specs.Words.{bit}
use Rattle.run.specs.declared.run.asks.EntryFault.{EntryFault}
use Rattle.run.specs.Lawful.{first_at}
use Rattle.run.specs.Opens.{OpensLaw, open_meetings}
use Rattle.run.specs.State.{State, paths_on, meetings_on, count_on, scene_now, scene_under}
use Rattle.run.specs.Timing.{HasExpected, TicksOf, TicksUnder, ring_or}
use Rattle.redraw.specs.Costs.{cost_of, total_by}
use Rattle.redraw.specs.Nodes.{finding, found_at, found_by, lowest, numbers_of, violates}
use Rattle.redraw.specs.Orders.{KeepsClosed, order_by, orders_of}
use Rattle.redraw.proofs.Lowest.{first_is, lowest_is, none_is, none_violates}
use Rattle.redraw.proofs.Wording.{closed_order}

module _ (st : State) (opens : OpensLaw st) where
  -- the stops of an open meeting, and those after them, are on paths of the plan
  there : (a : At) → suc a.stop < length (path_at (paths_on st) a.shuttle) → a.shuttle < count_on st
  there a onward =
      elim (cases_lt a.shuttle (count_on st)) [
        | inl lt ↦ lt
        | inr ge ↦ absurd (omega (arith, onward, ap (λ (p : List Stop). length p) (get_or_past (paths_on st) a.shuttle [] ge)))
      ]

  -- numbers that agree on paths find the same
  module _ (decided : ℕ) (e f : Numbers) (same : (s i : ℕ) → s < count_on st → i ≤ length (path_at (paths_on st) s) - 1 → e s i ≡ f s i) where
    same_wait : (m : Meeting) (x : First) → suc m.lower.stop < length (path_at (paths_on st) m.lower.shuttle) → suc m.other.stop < length (path_at (paths_on st) m.other.shuttle)
        → nat_lt (number e (wait_under m x).awaited) (number e (wait_under m x).second) ≡ nat_lt (number f (wait_under m x).awaited) (number f (wait_under m x).second)
    same_wait m Lower p q =
        ap₂ (λ x y. nat_lt x y) (same m.lower.shuttle (suc m.lower.stop) (there m.lower p) (omega (arith, p))) (same m.other.shuttle m.other.stop (there m.other q) (omega (arith, q)))
    same_wait m Other p q =
        ap₂ (λ x y. nat_lt x y) (same m.other.shuttle (suc m.other.stop) (there m.other q) (omega (arith, q))) (same m.lower.shuttle m.lower.stop (there m.lower p) (omega (arith, p)))

    same_violates : (k : ℕ) → k < length (open_meetings st) → violates st decided e (k, slice_index (open_meetings st) k) ≡ violates st decided f (k, slice_index (open_meetings st) k)
    same_violates k lt =
        let j = slice_index (open_meetings st) k in
        let o = (opens.are_open k lt).0.1 in
        ap (λ b. not (bit decided k) && not b) (same_wait (meeting_at (meetings_on st) j) (first_at st.firsts j) o.lower.onward o.other.onward)

    same_lowest : lowest st decided e ≡ lowest st decided f
    same_lowest = by (lowest st decided f) refl
      where
        by : (l : Option ℕ) → lowest st decided f ≡ l → lowest st decided e ≡ l
        by None h = none_is st decided e (λ i low. same_violates i low ∙ none_violates st decided f h i low)
        by (Some k) h =
            let l = lowest_is st decided f k h in
            first_is st decided e k l.0 (λ i low. same_violates i (omega (arith, low, l.0)) ∙ l.1 i low) (same_violates k l.0 ∙ l.2)

no_ring : (o : Option Numbers) (r : Result (Unit {0}) EntryFault) → r ≡ ring_or o → IsErr r → o ≡ None
no_ring None r e err = refl
no_ring (Some ticks) (Ok x) e err = cc
no_ring (Some ticks) (Err f) e err = cc

-- by what a timetable has
module _ (st : State) (opens : OpensLaw st) (start : ℕ) (next : ℕ → ℕ → ℕ → ℕ) (decided turned : ℕ) (orders : List (Option First)) (are : orders ≡ orders_of st decided turned) (r : Result (Unit {0}) EntryFault) (old t : Times) (ticks : TicksUnder orders (Some st) r old t) where
  abbrev c : Scene
  c = scene_under st (orders_of st decided turned)

  here : TicksOf c (count_on st) r t
  here = subst (λ os. TicksUnder os (Some st) r old t) are ticks

  pub found_ring : IsErr r → Ring ≡ finding start next st decided turned
  unfolding finding
  found_ring err = sym (ap (found_at start next st c decided) (no_ring (entry_ticks c (count_on st)) r here.answer err))

  pub found_ok : IsOk r → found_by (total start next t.arrivals) (lowest st decided (numbers_of t)) ≡ finding start next st decided turned
  unfolding finding
  found_ok ok =
      let has = on_ok r ok here.timetable in
      ap₂ found_by (ap (total start next) has.arrivals) (same_lowest st opens decided (numbers_of t) has.ticks has.each)
      ∙ sym (ap (found_at start next st c decided) has.worked)
    where
      on_ok : {P : Type 0} (r : Result (Unit {0}) EntryFault) → IsOk r → OnOk r P → P
      on_ok (Ok x) ok p = p
      on_ok (Err f) ok p = cc

-- the cost in force
pub cost_now : (st : State) (start : ℕ) (next : ℕ → ℕ → ℕ → ℕ) (t : Times) → HasExpected st t → total start next t.arrivals ≡ unwrap_or (cost_of start next st st.firsts) 0
unfolding cost_of
cost_now st start next t h = ap (total start next) h.timetable.arrivals ∙ sym (ap (λ o. unwrap_or (option_map (total_by start next st (scene_now st)) o) 0) h.timetable.worked)

pub refilled : {X : Type 0} (xs ys : List X) → length ys ≡ length xs → refill (length xs) xs ys ≡ ys
refilled xs ys long = take_at ys _ (length xs) long

-- the orders of a node are those in force where a meeting is not open
pub keeps_closed : (st : State) → OpensLaw st → (decided turned : ℕ) → KeepsClosed st (orders_of st decided turned)
keeps_closed st opens decided turned = record {
  count = length-map-range_with_len (order_by st decided turned) 0 (length st.firsts);
  closed = λ j lt f. get_or-map-range_with_len (order_by st decided turned) 0 (length st.firsts) j j None lt (zero-add j) ∙ closed_order st opens decided turned j f;
}
