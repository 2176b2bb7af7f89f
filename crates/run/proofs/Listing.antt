-- The open meetings are listed by rank.
use Rattle.std.proofs.Common.{◌≡◌, ℕ, zero, suc, ◌+◌, ◌-◌, ◌<◌, ◌≤◌, Bool, true, cond, List, [], ◌∷◌, ◌++◌, length, filter, slice_index, get_or, sym, refl, ap, ◌∙◌, inl, inr, subst, add-one, zero-add, arith}
use Rattle.std.specs.List.{range_with_len}
use Rattle.std.proofs.lemmas.Bool.{cases_lt, cases_Bool, cond-true, cond-false}
use Rattle.std.proofs.lemmas.List.{length-append, get_or_append_left, get_or_at, map-id}
use Rattle.std.proofs.lemmas.List.Elements.{filter-append}
use Rattle.std.proofs.lemmas.List.FromFn.{map-range_with_len_more}
use Rattle.run.specs.Opens.{open_at, OpensLaw}
use Rattle.run.specs.State.{State, meetings_on}
use Rattle.run.proofs.Opening.{open_test}

counting_more : (n : ℕ) → range_with_len 0 (n + 1) ≡ range_with_len 0 n ++ n ∷ []
counting_more n =
    sym (map-id (range_with_len 0 (n + 1))) ∙ map-range_with_len_more (λ k. k) 0 n n (zero-add n) ∙ ap (λ l. l ++ n ∷ []) (map-id (range_with_len 0 n))

-- numbers that pass a test, below n
module _ (p : ℕ → Bool) where
  abbrev below : ℕ → List ℕ
  below n = filter p (range_with_len 0 n)

  more : (n : ℕ) → below (suc n) ≡ below n ++ cond (p n) (n ∷ []) []
  more n = ap (λ k. below k) (sym (add-one n)) ∙ ap (filter p) (counting_more n) ∙ filter-append p (range_with_len 0 n) (n ∷ [])

  -- those of the first n come first in a longer list
  front : (n k : ℕ) → k < length (below n) → (k < length (below (suc n))) × (slice_index (below (suc n)) k ≡ slice_index (below n) k)
  front n k lt = (
    omega (arith, ap (λ (l : List ℕ). length l) (more n), length-append (below n) (cond (p n) (n ∷ []) []), lt),
    ap (λ l. get_or l k 0) (more n) ∙ get_or_append_left (below n) (cond (p n) (n ∷ []) []) 0 k lt,
  )

  last : (n : ℕ) → p n ≡ true → (length (below n) < length (below (suc n))) × (slice_index (below (suc n)) (length (below n)) ≡ n)
  last n t =
      let e : below (suc n) ≡ below n ++ n ∷ [] = more n ∙ ap (λ l. below n ++ l) (cond-true _ _ _ t) in (
        omega (arith, ap (λ (l : List ℕ). length l) e, length-append (below n) (n ∷ [])),
        ap (λ l. get_or l (length (below n)) 0) e ∙ get_or_at (below n) n [] 0 (length (below n)) refl,
      )

  passed_is_listed : (n j : ℕ) → j < n → p j ≡ true → (length (below j) < length (below n)) × (slice_index (below n) (length (below j)) ≡ j)
  passed_is_listed zero j lt t = absurd (omega arith)
  passed_is_listed (suc n) j lt t =
      elim (cases_lt j n) [
        | inl less ↦ let r = passed_is_listed n j less t in let f = front n (length (below j)) r.0 in (f.0, f.1 ∙ r.1)
        | inr ge ↦ let e : n ≡ j = omega arith in subst (λ j. (length (below j) < length (below (suc n))) × (slice_index (below (suc n)) (length (below j)) ≡ j)) e (last n (subst (λ j. p j ≡ true) (sym e) t))
      ]

  record Passed (n k j : ℕ) : Type 0 where
    within : j < n
    passes : p j ≡ true
    ranked : length (below j) ≡ k

  listed_has_passed : (n k : ℕ) → k < length (below n) → Passed n k (slice_index (below n) k)
  listed_has_passed zero k lt = absurd (omega arith)
  listed_has_passed (suc n) k lt =
      elim (cases_lt k (length (below n))) [
        | inl less ↦
            let r = listed_has_passed n k less in
            subst (Passed (suc n) k) (sym (front n k less).1) (record { within = omega (arith, r.within); passes = r.passes; ranked = r.ranked })
        | inr ge ↦
            elim (cases_Bool (p n)) [
              | inl t ↦
                  let here = last n t in
                  let e : length (below n) ≡ k = omega (arith, ge, lt, length-append (below n) (n ∷ []), ap (λ (l : List ℕ). length l) (more n ∙ ap (λ l. below n ++ l) (cond-true _ _ _ t))) in
                  subst (Passed (suc n) k) (sym (subst (λ k. slice_index (below (suc n)) k ≡ n) e here.1)) (record { within = omega arith; passes = t; ranked = e })
              | inr f ↦ absurd (omega (arith, ge, lt, length-append (below n) [], ap (λ (l : List ℕ). length l) (more n ∙ ap (λ l. below n ++ l) (cond-false _ _ _ f))))
            ]
      ]

  rank_grows : (i d : ℕ) → length (below i) ≤ length (below (i + d))
  rank_grows i zero = let e : i + zero ≡ i = omega arith in omega (arith, ap (λ k. length (below k)) e)
  rank_grows i (suc d) =
      let e : i + suc d ≡ suc (i + d) = omega arith in
      omega (arith, rank_grows i d, ap (λ k. length (below k)) e, ap (λ (l : List ℕ). length l) (more (i + d)), length-append (below (i + d)) (cond (p (i + d)) ((i + d) ∷ []) []))

  rises : (n k l : ℕ) → k < l → l < length (below n) → slice_index (below n) k < slice_index (below n) l
  rises n k l less lt =
      elim (cases_lt (slice_index (below n) k) (slice_index (below n) l)) [
        | inl up ↦ up
        | inr ge ↦
            let a = listed_has_passed n k (omega (arith, less, lt)) in
            let b = listed_has_passed n l lt in
            let i = slice_index (below n) l in
            let e : i + (slice_index (below n) k - i) ≡ slice_index (below n) k = omega (arith, ge) in
            let g : length (below i) ≤ length (below (slice_index (below n) k)) = subst (λ (j : ℕ). length (below i) ≤ length (below j)) e (rank_grows i (slice_index (below n) k - i)) in
            absurd (omega (arith, g, a.ranked, b.ranked, less))
      ]

pub opens_listed : (st : State) → OpensLaw st
opens_listed st = record {
  test = open_test st;
  listed = λ j o. passed_is_listed (open_at st) (length (meetings_on st)) j o.0 ((open_test st j).1 o);
  are_open = λ k lt. let r = listed_has_passed (open_at st) (length (meetings_on st)) k lt in ((open_test st _).0 r.passes, r.ranked);
  rising = rises (open_at st) (length (meetings_on st));
}
