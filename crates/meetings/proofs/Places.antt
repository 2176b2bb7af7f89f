-- Where each stay stands in the list of all stays.
use Rattle.std.proofs.Common.{◌≡◌, ℕ, zero, suc, ◌+◌, ◌-◌, ◌<◌, ◌≤◌, ◌⊎◌, List, ◌++◌, length, get_or, sym, refl, ap, ◌∙◌, subst, inl, inr, ⊎_elim, add-one, arith}
use Rattle.std.proofs.lemmas.List.{length-append, get_or_append_left, get_or-append_right}
use Rattle.std.proofs.lemmas.Bool.{cases_lt}
use Rattle.meetings.specs.Joined.{joined, JoinedLaw}
use Rattle.meetings.proofs.Counts.{joined_more}

module _ {X : Type 0} (f : ℕ → List X) where
  joined-suc : (n : ℕ) → joined f (suc n) ≡ joined f n ++ f n
  joined-suc n = ap (joined f) (sym (add-one n)) ∙ joined_more f n

  length-joined-suc : (n : ℕ) → length (joined f (suc n)) ≡ length (joined f n) + length (f n)
  length-joined-suc n = ap length (joined-suc n) ∙ length-append (joined f n) (f n)

  pub joined_rises : (s n : ℕ) → s < n → length (joined f s) + length (f s) ≤ length (joined f n)
  joined_rises s zero lt = absurd (omega arith)
  joined_rises s (suc n) lt =
      let here = length-joined-suc n in
      ⊎_elim (λ (less : s < n). omega (arith, joined_rises s n less)) (λ (ge : n ≤ s). let e : s ≡ n = omega arith in subst (λ k. length (joined f k) + length (f k) ≤ length (joined f (suc n))) (sym e) (omega arith)) (cases_lt s n)

  -- entry i of list s
  pub joined-at : (n s i : ℕ) (d : X) → s < n → i < length (f s) → get_or (joined f n) (length (joined f s) + i) d ≡ get_or (f s) i d
  joined-at zero s i d lt in_list = absurd (omega arith)
  joined-at (suc n) s i d lt in_list =
      ap (λ l. get_or l (length (joined f s) + i) d) (joined-suc n)
      ∙ ⊎_elim
      (λ (less : s < n). get_or_append_left (joined f n) (f n) d (length (joined f s) + i) (omega (arith, joined_rises s n less)) ∙ joined-at n s i d less in_list)
      (λ (ge : n ≤ s). let e : s ≡ n = omega arith in let m : length (joined f s) ≡ length (joined f n) = ap (λ k. length (joined f k)) e in let back : length (joined f s) + i - length (joined f n) ≡ i = omega arith in get_or-append_right (joined f n) (f n) (length (joined f n)) (length (joined f s) + i) d refl (omega arith) ∙ ap (λ k. get_or (f n) k d) back ∙ ap (λ k. get_or (f k) i d) (sym e))
      (cases_lt s n)

  -- every index is that of some entry
  pub record Found (n k : ℕ) : Type 0 where
    pub s : ℕ
    pub i : ℕ
    pub list : s < n
    pub entry : i < length (f s)
    pub is : k ≡ length (joined f s) + i

  pub joined_find : (n k : ℕ) → k < length (joined f n) → Found n k
  joined_find zero k lt = absurd (omega arith)
  joined_find (suc n) k lt =
      let long = length-joined-suc n in
      ⊎_elim
      (λ (less : k < length (joined f n)). let r = joined_find n k less in record { s = r.s; i = r.i; list = omega (arith, r.list); entry = r.entry; is = r.is })
      (λ (ge : length (joined f n) ≤ k). record { s = n; i = k - length (joined f n); list = omega arith; entry = omega arith; is = omega arith })
      (cases_lt k (length (joined f n)))

  -- and indices rise with list and entry
  pub joined_order : (s r i j : ℕ) → i < length (f s) → length (joined f s) + i < length (joined f r) + j → j < length (f r) → (s < r) ⊎ ((s ≡ r) × (i < j))
  joined_order s r i j a lt b =
      ⊎_elim (λ (less : s < r). inl less)
      (λ (ge : r ≤ s). ⊎_elim (λ (less : r < s). absurd (omega (arith, joined_rises r s less))) (λ (le : s ≤ r). let e : s ≡ r = omega arith in inr (e, omega (arith, ap (λ k. length (joined f k)) e))) (cases_lt r s))
      (cases_lt s r)

pub joined_law : {X : Type 0} → JoinedLaw X
joined_law = record { more = joined_more; rises = joined_rises; at = λ f n s i d. joined-at f n s i d }
