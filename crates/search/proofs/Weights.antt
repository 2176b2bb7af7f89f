-- With room and budget enough a search is not refused: each node weighs as much as there are words that agree with it.
use Rattle.std.proofs.Common.{◌≡◌, inl, inr, ℕ, zero, suc, ◌+◌, ◌-◌, ◌^◌, ◌<◌, ◌≤◌, Bool, true, false, nat_lt, List, [], ◌∷◌, ◌++◌, length, take, drop, sum_by, Ok, Err, IsOk, refl, ap, ◌∙◌, length-append, length-take, length-drop, arith}
use Rattle.std.specs.Prelude.{if◌then◌else◌}
use Rattle.std.specs.Int.{bit_at}
use Rattle.std.specs.List.{insert}
use Rattle.std.proofs.Math.Nat.{two-pow-succ}
use Rattle.std.proofs.Math.Pow.{pow_pos}
use Rattle.std.proofs.lemmas.Bool.{cases_eq}
use Rattle.std.proofs.lemmas.Nat.Bits.{bit_at_or, bit_at-lt, bit_at-pow_same, bit_at-pow_other, bit_at-zero}
use Rattle.std.proofs.lemmas.List.Sums.{sum_by-append, sum_by-cons, sum_by-insert}
use Rattle.lists.specs.declared.node.Node.{Node}
use Rattle.search.specs.Decisions.{with_bit}
use Rattle.search.specs.Laws.{FindsWithRoom}
use Rattle.search.specs.Questions.{Question, IsSearchable}
use Rattle.search.specs.Steps.{children, if_below, look, searched}
use Rattle.search.specs.declared.finding.Finding.{Finding}
use Rattle.search.specs.declared.finding.Finding.TheVariants.{Ring, Done, Branch}
use Rattle.search.specs.declared.found.Best.{Best}
use Rattle.search.specs.declared.found.Found.{Found}
use Rattle.search.specs.declared.found.SearchFault.{SearchFault}
use Rattle.search.specs.declared.found.SearchFault.TheVariants.{Full, Budget}
use Rattle.search.proofs.Courses.{any_place, any_places, answers}

-- how many of the first n bits are not set
pub clear_bits : ℕ → ℕ → ℕ
clear_bits zero word = 0
clear_bits (suc n) word = clear_bits n word + (1 - bit_at word n)

same_bit : (word j i : ℕ) → (i ≡ j → ⊥) → bit_at (with_bit word j) i ≡ bit_at word i
same_bit word j i ne = omega (arith, bit_at_or word (2 ^ j) i, bit_at-pow_other j i ne)

clear_bits-above : (n word j : ℕ) → n ≤ j → clear_bits n (with_bit word j) ≡ clear_bits n word
unfolding clear_bits
clear_bits-above zero word j le = refl
clear_bits-above (suc n) word j le = omega (arith, clear_bits-above n word j (omega (arith, le)), same_bit word j n (λ e. omega (arith, le, e)))

-- one more is set
pub clear_bits-with_bit : (n word j : ℕ) → j < n → bit_at word j ≡ 0 → clear_bits n (with_bit word j) + 1 ≡ clear_bits n word
unfolding clear_bits
clear_bits-with_bit zero word j lt off = absurd (omega (arith, lt))
clear_bits-with_bit (suc n) word j lt off =
    elim (cases_eq n j) [
      | inl e ↦
          let on : bit_at (with_bit word j) n ≡ 1 = omega (arith, bit_at_or word (2 ^ j) n, ap (λ i. bit_at (2 ^ j) i) e, bit_at-pow_same j, bit_at-lt word n) in
          let was : bit_at word n ≡ 0 = ap (bit_at word) e ∙ off in
          omega (arith, clear_bits-above n word j (omega (arith, e)), on, was)
      | inr ne ↦ omega (arith, clear_bits-with_bit n word j (omega (arith, lt, ne)) off, same_bit word j n ne)
    ]

pub clear_bits-zero : (n : ℕ) → clear_bits n 0 ≡ n
unfolding clear_bits
clear_bits-zero zero = refl
clear_bits-zero (suc n) = omega (arith, clear_bits-zero n, bit_at-zero n)

longer : {X : Type 0} (xs : List X) (k : ℕ) (x : X) → length (insert xs k x) ≡ length xs + 1
longer xs k x = omega (arith, length-append (take k xs) (x ∷ drop k xs), length-take k xs, length-drop k xs)

module _ (q : Question) (searchable : IsSearchable q) (room : ℕ) where
  pub weight : Node → ℕ
  weight x = 2 ^ clear_bits q.count x.decided

  some_weight : (x : Node) → 0 < weight x
  unfolding weight
  some_weight x = pow_pos (clear_bits q.count x.decided)

  long_weighs : (row : List Node) → length row ≤ sum_by weight row
  long_weighs [] = omega arith
  long_weighs (x ∷ row) = omega (arith, some_weight x, long_weighs row, sum_by-cons weight x row)

  -- there is room for all words that some node agrees with, and budget for their nodes
  pub record Enough (more : ℕ) (row : List Node) : Type 0 where
    pub fits : sum_by weight row ≤ room
    pub lasts : sum_by weight row + sum_by weight row ≤ more + length row

  dropped : (more : ℕ) (x : Node) (row : List Node) → Enough (suc more) (x ∷ row) → Enough more row
  dropped more x row h = record { fits = omega (arith, h.fits, some_weight x, sum_by-cons weight x row); lasts = omega (arith, h.lasts, some_weight x, sum_by-cons weight x row) }

  branched : (more : ℕ) (x : Node) (row : List Node) (c j : ℕ) → q.finding x.decided x.turned ≡ Branch c j → Enough (suc more) (x ∷ row) → Enough more (children x (Branch c j) ++ row)
  unfolding weight
  branched more x row c j e h =
      let named = searchable.names x.decided x.turned c j e in
      let less = clear_bits-with_bit q.count x.decided j named.0 named.1 in
      let halves : 2 ^ clear_bits q.count x.decided ≡ 2 ^ clear_bits q.count (with_bit x.decided j) + 2 ^ clear_bits q.count (with_bit x.decided j) = ap (λ n. 2 ^ n) (omega (arith, less)) ∙ two-pow-succ (clear_bits q.count (with_bit x.decided j)) in
      let whole = sum_by-cons weight x row in
      let halved = sum_by-append weight (children x (Branch c j)) row in
      record { fits = omega (arith, h.fits, halves, whole, halved); lasts = omega (arith, h.lasts, halves, whole, halved) }

  pub looked : (more best : ℕ) (x : Node) (row : List Node) → Enough (suc more) (x ∷ row) → Enough more (children x (look q best x) ++ row)
  looked more best x row h = by_bound (nat_lt x.bound best)
    where
      by_find : (f : Finding) → q.finding x.decided x.turned ≡ f → Enough more (children x (if_below best f) ++ row)
      by_find Ring e = dropped more x row h
      by_find (Done c) e = elim (nat_lt c best) as (λ b. Enough more (children x (if b then Done c else Ring) ++ row)) [ true ↦ dropped more x row h | false ↦ dropped more x row h ]
      by_find (Branch c j) e = elim (nat_lt c best) as (λ b. Enough more (children x (if b then Branch c j else Ring) ++ row)) [ true ↦ branched more x row c j e h | false ↦ dropped more x row h ]

      by_bound : (b : Bool) → Enough more (children x (if b then if_below best (q.finding x.decided x.turned) else Ring) ++ row)
      by_bound true = by_find (q.finding x.decided x.turned) refl
      by_bound false = dropped more x row h

  pub entering : (more : ℕ) (x : Node) (xs row : List Node) (k : ℕ) → Enough more (x ∷ (xs ++ row)) → Enough more (xs ++ insert row k x)
  entering more x xs row k h =
      let sums = sum_by-append weight xs row in
      let sums_in = sum_by-append weight xs (insert row k x) in
      let entered = sum_by-insert weight row k x in
      let whole = sum_by-cons weight x (xs ++ row) in
      record {
        fits = omega (arith, h.fits, sums, sums_in, entered, whole);
        lasts = omega (arith, h.lasts, sums, sums_in, entered, whole, length-append xs row, length-append xs (insert row k x), longer row k x);
      }

  pub never_spent : (x : Node) (row : List Node) → Enough zero (x ∷ row) → ⊥
  never_spent x row h = omega (arith, h.lasts, long_weighs row, some_weight x, sum_by-cons weight x row)

  pub root_enough : (budget : ℕ) → 2 ^ q.count ≤ room → 2 ^ (q.count + 1) ≤ budget + 1 → Enough budget (record { bound = 0; decided = 0; turned = 0 } ∷ [])
  unfolding weight
  root_enough budget wide long =
      let all : 2 ^ clear_bits q.count 0 ≡ 2 ^ q.count = ap (λ n. 2 ^ n) (clear_bits-zero q.count) in
      let twice : 2 ^ (q.count + 1) ≡ 2 ^ q.count + 2 ^ q.count = ap (λ n. 2 ^ n) (omega arith) ∙ two-pow-succ q.count in
      record { fits = omega (arith, wide, all); lasts = omega (arith, long, all, twice) }

  abbrev At : ℕ → Best → List Node → List Node → Type 0
  At more best xs row = Enough more (xs ++ row)

  pub ends_found : (budget : ℕ) (places : List ℕ) → 2 ^ q.count ≤ room → 2 ^ (q.count + 1) ≤ budget + 1 → IsOk (searched q room budget places).answer
  ends_found budget places wide long = answers q room any_place At (λ r. IsOk r) empty spent full put step budget places (any_places (searched q room budget places).moves) (root_enough budget wide long)
    where
      empty : (more taken : ℕ) (best : Best) → Enough more [] → IsOk {E = SearchFault} (Ok (let found : Found = record { turned = best.turned; cost = best.cost; taken = taken } in found))
      empty more taken best h = refl

      spent : (taken : ℕ) (best : Best) (x : Node) (row : List Node) → Enough zero (x ∷ row) → IsOk {T = Found} (Err (Budget taken))
      spent taken best x row h = absurd (never_spent x row h)

      full : (more taken : ℕ) (best : Best) (x : Node) (xs row : List Node) → room ≤ length row → Enough more (x ∷ (xs ++ row)) → IsOk {T = Found} (Err (Full taken))
      full more taken best x xs row le h = absurd (omega (arith, h.fits, le, long_weighs row, some_weight x, sum_by-append weight xs row, sum_by-cons weight x (xs ++ row)))

      put : (more : ℕ) (best : Best) (x : Node) (xs row : List Node) (k : ℕ) → any_place k → Enough more (x ∷ (xs ++ row)) → Enough more (xs ++ insert row k x)
      put more best x xs row k a h = entering more x xs row k h

      step : (more : ℕ) (best : Best) (x : Node) (row : List Node) → Enough (suc more) (x ∷ row) → Enough more (children x (look q best.cost x) ++ row)
      step more best x row h = looked more best.cost x row h

pub finds_with_room : FindsWithRoom
finds_with_room q searchable room budget places wide long = ends_found q searchable room budget places wide long
