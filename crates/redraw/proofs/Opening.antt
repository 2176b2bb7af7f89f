-- The open meetings as a list of their numbers.
use Rattle.std.proofs.Common.{◌≡◌, ℕ, zero, suc, ◌+◌, ◌<◌, Bool, true, false, not, ◌&&◌, List, [], ◌∷◌, ◌++◌, length, filter, set, slice_index, Some, None, sym, refl, ap, ap₂, ◌∙◌, subst, zero-add, IsTrue, arith}
use Rattle.std.specs.Prelude.{if◌then◌else◌}
use Rattle.std.specs.Bool.{then_some}
use Rattle.std.specs.List.{range_with_len}
use Rattle.std.proofs.lemmas.Bool.{cond-true, cond-false}
use Rattle.std.proofs.lemmas.List.{append-nil, map-id}
use Rattle.std.proofs.lemmas.List.FromFn.{filter_of_map_range_with_len_more}
use Rattle.meetings.specs.declared.meet.First.{First}
use Rattle.meetings.specs.declared.meet.Meeting.{Meeting}
use Rattle.orders.specs.Waits.{wait_by_number, wait_under}
use Rattle.plans.specs.declared.plan.Plan.{Plan}
use Rattle.floor.specs.Words.{bit}
use Rattle.traffic.specs.Index.{meeting_at}
use Rattle.run.specs.Lawful.{first_at}
use Rattle.run.specs.Opens.{open_at, opens_below, open_meetings, rank, OpenOn, OpensLaw}
use Rattle.run.specs.State.{State, meetings_on}
use Rattle.redraw.specs.Orders.{first_or_turned, first_by, order_by}
use Rattle.redraw.proofs.Filling.{Filled, filled_more}

module _ (st : State) where
  -- one meeting more
  below_more : (j : ℕ) → opens_below st (j + 1) ≡ opens_below st j ++ (if open_at st j then j ∷ [] else [])
  below_more j =
      ap (filter (open_at st)) (sym (map-id (range_with_len 0 (j + 1)))) ∙ filter_of_map_range_with_len_more (open_at st) (λ j. j) 0 j j (zero-add j)
      ∙ ap (λ l. filter (open_at st) l ++ (if open_at st j then j ∷ [] else [])) (map-id (range_with_len 0 j))

  pub below_open : (j : ℕ) → open_at st j ≡ true → opens_below st (j + 1) ≡ opens_below st j ++ j ∷ []
  below_open j t = below_more j ∙ ap (λ l. opens_below st j ++ l) (cond-true _ _ _ t)

  pub below_closed : (j : ℕ) → open_at st j ≡ false → opens_below st (j + 1) ≡ opens_below st j
  below_closed j f = below_more j ∙ ap (λ l. opens_below st j ++ l) (cond-false _ _ _ f) ∙ append-nil (opens_below st j)

-- the one with bit k
module _ (st : State) (opens : OpensLaw st) (ordered : length st.firsts ≡ length (meetings_on st)) (numbers : List ℕ) (listed : numbers ≡ open_meetings st) (k : ℕ) (lt : k < length numbers) where
  abbrev i : ℕ
  i = slice_index numbers k

  pub within : k < length (open_meetings st)
  within = omega (arith, lt, ap (λ (l : List ℕ). length l) listed)

  pub same : i ≡ slice_index (open_meetings st) k
  same = ap (λ l. slice_index l k) listed

  is_open : IsTrue (open_at st i)
  is_open = (opens.test i).1 (subst (λ i. OpenOn i st) (sym same) (opens.are_open k within).0)

  ranked : rank st i ≡ k
  ranked = ap (rank st) same ∙ (opens.are_open k within).1

  pub low : i < length st.firsts
  low = omega (arith, ((opens.test i).0 is_open).0, ordered)

  pub first_there : (word : ℕ) → first_or_turned (bit word k) (first_at st.firsts i) ≡ first_by st word i
  first_there word = sym (ap₂ (λ b k. first_or_turned (b && bit word k) (first_at st.firsts i)) is_open ranked)

  pub order_there : (decided turned : ℕ) → then_some (bit decided k) (first_or_turned (bit turned k) (first_at st.firsts i)) ≡ order_by st decided turned i
  order_there decided turned =
      by (bit decided k) (first_or_turned (bit turned k) (first_at st.firsts i))
      ∙ ap (λ f. if not (bit decided k) then None else Some f) (first_there turned)
      ∙ sym (ap₂ (λ b k. if b && not (bit decided k) then None else Some (first_by st turned i)) is_open ranked)
    where
      by : (b : Bool) (f : First) → then_some b f ≡ (if not b then None else Some f)
      by true f = refl
      by false f = refl

  -- is given what it is to have
  pub filled_there : {X : Type 0} (n : ℕ) (target : ℕ → X) (d x : X) (xs : List X) → i < n → x ≡ target i → Filled st n target d k xs → Filled st n target d (k + 1) (set xs i x)
  filled_there n target d x xs fits is h =
      subst (λ i. Filled st n target d (k + 1) (set xs i x)) (sym same)
      (filled_more st n target d opens k xs x within (subst (λ i. i < n) same fits) (is ∙ ap target same) h)

wait_at : (ms : List Meeting) (j : ℕ) (f : First) → j < length ms → wait_by_number ms j f ≡ Some (wait_under (meeting_at ms j) f)
wait_at [] j f lt = absurd (omega (arith, lt))
wait_at (m ∷ ms) zero f lt = refl
wait_at (m ∷ ms) (suc j) f lt = wait_at ms j f (omega (arith, lt))

-- the wait at a meeting, by the orders in force
pub wait_there : (st : State) → length st.firsts ≡ length (meetings_on st) → (p : Plan) (fs : List First) (j : ℕ) → p ≡ st.plan → fs ≡ st.firsts → j < length st.firsts
    → wait_by_number p.meetings j (first_at fs j) ≡ Some (wait_under (meeting_at (meetings_on st) j) (first_at st.firsts j))
wait_there st ordered p fs j is fs_are lt =
    ap₂ (λ (p : Plan) fs. wait_by_number p.meetings j (first_at fs j)) is fs_are ∙ wait_at (meetings_on st) j (first_at st.firsts j) (omega (arith, lt, ordered))
