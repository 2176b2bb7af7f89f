-- A list by meetings that is filled at the open ones, in their order.
use Rattle.std.proofs.Common.{◌≡◌, ◌⊎◌, inl, inr, ℕ, ◌+◌, ◌<◌, List, map, length, get_or, set, slice_index, sym, ap, ◌∙◌, IsFalse, length-set, get_or-set_same, get_or-set_other, arith}
use Rattle.std.specs.List.{range_with_len}
use Rattle.std.proofs.lemmas.Bool.{cases_Bool, cases_lt, cases_eq}
use Rattle.std.proofs.lemmas.List.FromFn.{fill_by_all}
use Rattle.run.specs.Opens.{open_at, open_meetings, rank, OpensLaw}
use Rattle.run.specs.State.{State}

module _ {X : Type 0} (st : State) (n : ℕ) (target : ℕ → X) (d : X) where
  -- It has what it is to have at the open meetings of the first k ranks, and at those that are not open.
  pub record Filled (k : ℕ) (xs : List X) : Type 0 where
    pub count : length xs ≡ n
    pub each : (j : ℕ) → j < n → (IsFalse (open_at st j) ⊎ (rank st j < k)) → get_or xs j d ≡ target j

  -- a step: at the open meeting of rank k
  pub filled_more : OpensLaw st → (k : ℕ) (xs : List X) (x : X) → k < length (open_meetings st) → slice_index (open_meetings st) k < n → x ≡ target (slice_index (open_meetings st) k) → Filled k xs → Filled (k + 1) (set xs (slice_index (open_meetings st) k) x)
  filled_more opens k xs x lt low is h = record { count = length-set xs i x ∙ h.count; each = each }
    where
      i : ℕ
      i = slice_index (open_meetings st) k

      other : (j : ℕ) → j < n → (j ≡ i → ⊥) → (IsFalse (open_at st j) ⊎ (rank st j < k + 1)) → get_or xs j d ≡ target j
      other j low_j ne (inl closed) = h.each j low_j (inl closed)
      other j low_j ne (inr less) =
          elim (cases_Bool (open_at st j)) [
            | inl t ↦
                elim (cases_lt (rank st j) k) [
                  | inl before ↦ h.each j low_j (inr before)
                  | inr ge ↦
                      let same : rank st j ≡ k = omega (arith, less, ge) in
                      absurd (ne (sym (opens.listed j ((opens.test j).0 t)).1 ∙ ap (slice_index (open_meetings st)) same))
                ]
            | inr f ↦ h.each j low_j (inl f)
          ]

      each : (j : ℕ) → j < n → (IsFalse (open_at st j) ⊎ (rank st j < k + 1)) → get_or (set xs i x) j d ≡ target j
      each j low_j where_it_is =
          elim (cases_eq j i) [
            | inl same ↦ ap (λ j. get_or (set xs i x) j d) same ∙ get_or-set_same xs i x d (omega (arith, low, h.count)) ∙ is ∙ ap target (sym same)
            | inr ne ↦ get_or-set_other xs i j x d ne ∙ other j low_j ne where_it_is
          ]

  pub filled_all : OpensLaw st → (xs : List X) → Filled (length (open_meetings st)) xs → xs ≡ map target (range_with_len 0 n)
  filled_all opens xs h = fill_by_all target xs n d h.count (λ j low. h.each j low (by j))
    where
      by : (j : ℕ) → IsFalse (open_at st j) ⊎ (rank st j < length (open_meetings st))
      by j = elim (cases_Bool (open_at st j)) [ inl t ↦ inr (opens.listed j ((opens.test j).0 t)).0 | inr f ↦ inl f ]
