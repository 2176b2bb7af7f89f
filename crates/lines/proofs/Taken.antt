-- A number as it is taken from the front of what follows a space.
use Rattle.std.proofs.Common.{◌≡◌, ℕ, ◌-◌, ◌^◌, ◌<◌, ◌≤◌, ◌&&◌, eqb, ltb, leb, ◌⊎◌, List, [], ◌∷◌, length, get_or, take, drop, Some, None, sym, ap, ◌∙◌, inl, inr, arith}
use Rattle.std.proofs.lemmas.List.{take_rest}
use Rattle.std.proofs.lemmas.Bool.{eq-eqb, le-leb, lt-leb, lt-ltb, le-ltb, cond-true, cond-false, and_from, and_left, and_right}
use Rattle.lines.specs.Numbers.{worth, count_of_digits, numeral_of, number_of}

-- what follows the first byte, as the code has it
abbrev pub after : List ℕ → List ℕ
after bs = take (length bs - 1) (drop 1 bs)

after_space : (bs : List ℕ) → 0 < length bs → get_or bs 0 0 ≡ 32 → number_of bs ≡ numeral_of (count_of_digits (drop 1 bs)) (drop 1 bs)
after_space [] some e = absurd (omega arith)
after_space (b ∷ bs) some e = cond-true (eqb b 32) (numeral_of (count_of_digits bs) bs) None (eq-eqb b 32 e)

module _ (bs : List ℕ) (some : 0 < length bs) (space : get_or bs 0 0 ≡ 32) (k : ℕ) (counted : k ≡ count_of_digits (after bs)) where
  number_is : number_of bs ≡ numeral_of k (after bs)
  number_is = after_space bs some space ∙ (λ i. numeral_of (count_of_digits (sym (take_rest bs 1) i)) (sym (take_rest bs 1) i)) ∙ ap (λ n. numeral_of n (after bs)) (sym counted)

  -- no digit, or more than ten
  pub not_counted : (k ≡ 0) ⊎ (10 < k) → None ≡ number_of bs
  not_counted h =
      sym (number_is ∙ cond-false (leb 1 k && leb k 10 && ltb (worth (take k (after bs))) (2 ^ 32)) (Some (worth (take k (after bs)), drop k (after bs))) None
      (and_left (leb 1 k && leb k 10) _ (elim h [ inl e ↦ and_left (leb 1 k) (leb k 10) (lt-leb 1 k (omega arith)) | inr l ↦ and_right (leb 1 k) (leb k 10) (lt-leb k 10 l) ])))

  module _ (front : List ℕ) (value : ℕ) (cut : front ≡ take k (after bs)) (worthy : value ≡ worth front) where
    worth_is : value ≡ worth (take k (after bs))
    worth_is = worthy ∙ ap worth cut

    -- worth too much
    pub not_fitting : 2 ^ 32 ≤ value → None ≡ number_of bs
    not_fitting le =
        let large : 2 ^ 32 ≤ worth (take k (after bs)) = omega (arith, worth_is) in
        sym (number_is ∙ cond-false (leb 1 k && leb k 10 && ltb (worth (take k (after bs))) (2 ^ 32)) (Some (worth (take k (after bs)), drop k (after bs))) None
        (and_right (leb 1 k && leb k 10) _ (le-ltb (worth (take k (after bs))) (2 ^ 32) large)))

    pub number-taken : (k ≡ 0 → ⊥) → k ≤ 10 → value < 2 ^ 32 → (rest : List ℕ) → rest ≡ drop k (after bs) → Some (value, rest) ≡ number_of bs
    number-taken any few fits rest left =
        let small : worth (take k (after bs)) < 2 ^ 32 = omega (arith, worth_is) in
        (λ i. Some (worth_is i, left i))
        ∙ sym (number_is ∙ cond-true (leb 1 k && leb k 10 && ltb (worth (take k (after bs))) (2 ^ 32)) (Some (worth (take k (after bs)), drop k (after bs))) None
        (and_from (leb 1 k && leb k 10) _ (and_from (leb 1 k) (leb k 10) (le-leb 1 k (omega (arith, any))) (le-leb k 10 few)) (lt-ltb (worth (take k (after bs))) (2 ^ 32) small)))
