-- The complete orders of words.
use Rattle.std.proofs.Common.{◌≡◌, ℕ, zero, suc, ◌+◌, ◌-◌, ◌*◌, ◌^◌, ◌<◌, Bool, true, false, not, ◌&&◌, eqb, List, length, slice_index, Some, None, inl, inr, sym, refl, ap, ◌∙◌, zero-add, IsTrue, IsFalse, arith}
use Rattle.std.specs.Prelude.{if◌then◌else◌}
use Rattle.std.specs.Int.{bit_at}
use Rattle.std.proofs.lemmas.Bool.{cases_Bool, cases_lt}
use Rattle.std.proofs.lemmas.List.FromFn.{length-map-range_with_len, get_or-map-range_with_len, fill_by_all}
use Rattle.std.proofs.lemmas.Nat.Bits.{bit_at_cat_low, bit_at_cat_high}
use Rattle.std.proofs.Math.Nat.{two-pow-succ}
use Rattle.meetings.specs.declared.meet.First.{First}
use Rattle.meetings.specs.declared.meet.First.TheVariants.{Lower, Other}
use Rattle.floor.specs.Words.{bit}
use Rattle.run.specs.Lawful.{first_at, Agrees}
use Rattle.run.specs.Opens.{open_at, open_meetings, rank, OpensLaw}
use Rattle.run.specs.State.{State}
use Rattle.redraw.specs.Orders.{turned_first, first_by, order_by, orders_of_word, WordsLaw}

-- whether two differ
differs : First → First → Bool
differs Lower Lower = false
differs Lower Other = true
differs Other Lower = true
differs Other Other = false

turned_where : (a b : First) → a ≡ (if differs a b then turned_first b else b)
unfolding differs
turned_where Lower Lower = refl
turned_where Lower Other = refl
turned_where Other Lower = refl
turned_where Other Other = refl

-- the word with just the bits below n that pass a test
module _ (p : ℕ → Bool) where
  abbrev pub word_of : ℕ → ℕ
  word_of zero = 0
  word_of (suc n) = (if p n then 1 else 0) * 2 ^ n + word_of n

  pub word_below : (n : ℕ) → word_of n < 2 ^ n
  word_below zero = omega arith
  word_below (suc n) =
      let below = word_below n in
      elim (p n) as (λ b. (if b then 1 else 0) * 2 ^ n + word_of n < 2 ^ suc n) [ true ↦ omega (arith, below, two-pow-succ n) | false ↦ omega (arith, below, two-pow-succ n) ]

  pub word-bit : (n k : ℕ) → k < n → bit (word_of n) k ≡ p k
  word-bit zero k lt = absurd (omega (arith, lt))
  word-bit (suc n) k lt =
      elim (cases_lt k n) [
        | inl low ↦ ap (λ v. eqb v 1) (bit_at_cat_low (if p n then 1 else 0) n (word_of n) k low) ∙ word-bit n k low
        | inr ge ↦
            let same : k ≡ n = omega (arith, ge, lt) in
            let top : n - n ≡ 0 = omega arith in
            ap (λ k. bit (word_of (suc n)) k) same ∙ ap (λ v. eqb v 1) (bit_at_cat_high (if p n then 1 else 0) n (word_of n) n (word_below n) (omega arith) ∙ ap (bit_at (if p n then 1 else 0)) top)
            ∙ elim (p n) as (λ b. eqb (bit_at (if b then 1 else 0) 0) 1 ≡ b) [ true ↦ refl | false ↦ refl ] ∙ ap p (sym same)
      ]

module _ (st : State) (opens : OpensLaw st) where
  pub word_at : (word j : ℕ) → j < length st.firsts → first_at (orders_of_word st word) j ≡ first_by st word j
  word_at word j lt = get_or-map-range_with_len (first_by st word) 0 (length st.firsts) j j Lower lt (zero-add j)

  pub word_count : (word : ℕ) → length (orders_of_word st word) ≡ length st.firsts
  word_count word = length-map-range_with_len (first_by st word) 0 (length st.firsts)

  -- at a meeting that is not open it is the first in force
  pub closed_by : (word j : ℕ) → IsFalse (open_at st j) → first_by st word j ≡ first_at st.firsts j
  closed_by word j f = ap (λ b. if b && bit word (rank st j) then turned_first (first_at st.firsts j) else first_at st.firsts j) f

  pub closed_order : (decided turned j : ℕ) → IsFalse (open_at st j) → order_by st decided turned j ≡ Some (first_at st.firsts j)
  closed_order decided turned j f = ap (λ b. if b && not (bit decided (rank st j)) then None else Some (first_by st turned j)) f ∙ ap (λ f. Some f) (closed_by turned j f)

  pub open_by : (word j : ℕ) (b : Bool) → IsTrue (open_at st j) → bit word (rank st j) ≡ b → first_by st word j ≡ (if b then turned_first (first_at st.firsts j) else first_at st.firsts j)
  open_by word j b t e = ap (λ b. if b && bit word (rank st j) then turned_first (first_at st.firsts j) else first_at st.firsts j) t ∙ ap (λ b. if b then turned_first (first_at st.firsts j) else first_at st.firsts j) e

  pub word_agrees : (word : ℕ) → Agrees st (orders_of_word st word)
  word_agrees word j lt closed = word_at word j (omega (arith, lt, word_count word)) ∙ closed_by word j closed

  module _ (orders : List First) (long : length orders ≡ length st.firsts) (agree : Agrees st orders) where
    abbrev turns : ℕ → Bool
    turns k = differs (first_at orders (slice_index (open_meetings st) k)) (first_at st.firsts (slice_index (open_meetings st) k))

    abbrev word_for : ℕ
    word_for = word_of turns (length (open_meetings st))

    at_each : (j : ℕ) → j < length st.firsts → first_at orders j ≡ first_by st word_for j
    at_each j lt =
        elim (cases_Bool (open_at st j)) [
          | inl t ↦
              let l = opens.listed j ((opens.test j).0 t) in
              turned_where (first_at orders j) (first_at st.firsts j)
              ∙ sym (open_by word_for j (differs (first_at orders j) (first_at st.firsts j)) t (word-bit turns (length (open_meetings st)) (rank st j) l.0 ∙ ap (λ i. differs (first_at orders i) (first_at st.firsts i)) l.1))
          | inr f ↦ agree j (omega (arith, lt, long)) f ∙ sym (closed_by word_for j f)
        ]

    pub is_of_word : (word : ℕ) × (word < 2 ^ length (open_meetings st)) × (orders ≡ orders_of_word st word)
    is_of_word = (word_for, word_below turns (length (open_meetings st)), fill_by_all (first_by st word_for) orders (length st.firsts) Lower long at_each)

  pub words_law : WordsLaw st
  words_law = record { count = word_count; agree = word_agrees; all = is_of_word }
