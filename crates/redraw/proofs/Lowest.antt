-- The first open meeting that is violated is the lowest.
use Rattle.std.proofs.Common.{◌≡◌, ℕ, ◌<◌, true, false, length, get_or, slice_index, Some, None, sym, ap, ◌∙◌, inl, inr, subst, zero-add, arith}
use Rattle.std.specs.Int.{bit_at}
use Rattle.std.specs.List.{enumerate_from, position_or_len}
use Rattle.std.proofs.lemmas.Bool.{cases_lt, cond-true, cond-false, lt-ltb, le-ltb, and_parts, not-true, eqb-false}
use Rattle.std.proofs.lemmas.List.FromFn.{length-enumerate_from, get_or-enumerate_from}
use Rattle.std.proofs.lemmas.List.Quantifiers.{position-Some}
use Rattle.std.proofs.lemmas.List.Sums.{position_or_len_is, fails_before_first}
use Rattle.std.proofs.lemmas.Nat.Bits.{bit_at-lt}
use Rattle.std.proofs.lemmas.Option.{none-some}
use Rattle.traffic.specs.Scene.{Numbers}
use Rattle.floor.specs.Words.{bit}
use Rattle.run.specs.Opens.{open_meetings}
use Rattle.run.specs.State.{State}
use Rattle.redraw.specs.Nodes.{violates, lowest}

module _ (st : State) (decided : ℕ) (e : Numbers) where
  numbered : (k : ℕ) → k < length (open_meetings st) → (k, slice_index (open_meetings st) k) ≡ get_or (enumerate_from 0 (open_meetings st)) k (0, 0)
  numbered k lt = sym (get_or-enumerate_from 0 (open_meetings st) k (0, 0) lt ∙ ap (λ i. (i, slice_index (open_meetings st) k)) (zero-add k))

  pub first_is : (k : ℕ) → k < length (open_meetings st) → ((i : ℕ) → i < k → violates st decided e (i, slice_index (open_meetings st) i) ≡ false)
      → violates st decided e (k, slice_index (open_meetings st) k) ≡ true → lowest st decided e ≡ Some k
  first_is k lt before here =
      let p = violates st decided e in
      let xs = enumerate_from 0 (open_meetings st) in
      let long = length-enumerate_from 0 (open_meetings st) in
      let found : position_or_len p xs ≡ k = position_or_len_is p xs k (0, 0) (omega (arith, lt, long)) (λ i low. subst (λ x. p x ≡ false) (numbered i (omega (arith, low, lt))) (before i low)) (λ w. subst (λ x. p x ≡ true) (numbered k lt) here) in
      cond-true _ _ _ (lt-ltb (position_or_len p xs) (length xs) (omega (arith, found, lt, long))) ∙ ap (λ i. Some i) found

  pub none_is : ((i : ℕ) → i < length (open_meetings st) → violates st decided e (i, slice_index (open_meetings st) i) ≡ false) → lowest st decided e ≡ None
  none_is none =
      let p = violates st decided e in
      let xs = enumerate_from 0 (open_meetings st) in
      let long : length xs ≡ length (open_meetings st) = length-enumerate_from 0 (open_meetings st) in
      let found : position_or_len p xs ≡ length xs = position_or_len_is p xs (length xs) (0, 0) (omega arith) (λ i low. let w : i < length (open_meetings st) = omega (arith, low, long) in subst (λ x. p x ≡ false) (numbered i w) (none i w)) (λ w. absurd (omega (arith, w))) in
      cond-false _ _ _ (le-ltb (position_or_len p xs) (length xs) (omega (arith, found)))

  -- with no lowest, none is violated
  pub none_violates : lowest st decided e ≡ None → (k : ℕ) → k < length (open_meetings st) → violates st decided e (k, slice_index (open_meetings st) k) ≡ false
  none_violates h k lt =
      let p = violates st decided e in
      let xs = enumerate_from 0 (open_meetings st) in
      elim (cases_lt (position_or_len p xs) (length xs)) [
        | inl found ↦ absurd (none-some _ (sym h ∙ cond-true _ _ _ (lt-ltb (position_or_len p xs) (length xs) found)))
        | inr ge ↦ subst (λ x. p x ≡ false) (sym (numbered k lt)) (fails_before_first p xs k (0, 0) (omega (arith, ge, lt, length-enumerate_from 0 (open_meetings st))))
      ]

  -- the lowest is the first that is violated
  pub lowest_is : (k : ℕ) → lowest st decided e ≡ Some k
      → (k < length (open_meetings st)) × ((i : ℕ) → i < k → violates st decided e (i, slice_index (open_meetings st) i) ≡ false) × (violates st decided e (k, slice_index (open_meetings st) k) ≡ true)
  lowest_is k h =
      let p = position-Some (violates st decided e) (enumerate_from 0 (open_meetings st)) k (0, 0) h in
      let lt : k < length (open_meetings st) = omega (arith, p.0, length-enumerate_from 0 (open_meetings st)) in
      (lt, λ i low. subst (λ x. violates st decided e x ≡ false) (sym (numbered i (omega (arith, low, lt)))) (p.2 i low), subst (λ x. violates st decided e x ≡ true) (sym (numbered k lt)) p.1)

  -- it is an open meeting that is not decided
  pub lowest_undecided : (k : ℕ) → lowest st decided e ≡ Some k → (k < length (open_meetings st)) × (bit_at decided k ≡ 0)
  lowest_undecided k h =
      let l = lowest_is k h in
      let off : bit decided k ≡ false = not-true (bit decided k) (and_parts _ _ l.2).0 in
      (l.0, omega (arith, bit_at-lt decided k, eqb-false (bit_at decided k) 1 off))
