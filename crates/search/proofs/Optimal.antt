-- What a search finds is least, whatever the places.
use Rattle.std.proofs.Common.{◌≡◌, ◌⊎◌, inl, inr, ℕ, ◌<◌, ◌≤◌, Bool, true, false, nat_lt, List, [], ◌∷◌, ◌++◌, length, Result, Ok, Err, IfOk, refl, sym, subst, arith}
use Rattle.std.specs.Prelude.{if◌then◌else◌}
use Rattle.std.specs.List.{insert}
use Rattle.std.proofs.lemmas.Bool.Decides.{nat_tests}
use Rattle.lists.specs.declared.node.Node.{Node}
use Rattle.search.specs.Decisions.{Agrees, with_bit}
use Rattle.search.specs.Laws.{FindsLeast, FindsOneCost}
use Rattle.search.specs.Questions.{Question, Costs, IsNode, IsSearchable, Least, NoMoreThan}
use Rattle.search.specs.Steps.{best_after, children, if_below, look, searched}
use Rattle.search.specs.declared.finding.Finding.{Finding}
use Rattle.search.specs.declared.finding.Finding.TheVariants.{Ring, Done, Branch}
use Rattle.search.specs.declared.found.Best.{Best}
use Rattle.search.specs.declared.found.Found.{Found}
use Rattle.search.specs.declared.found.SearchFault.{SearchFault}
use Rattle.search.specs.declared.found.SearchFault.TheVariants.{Full, Budget}
use Rattle.search.proofs.Bits.{and_zero, decides, kept_node, turned_node}
use Rattle.search.proofs.Courses.{any_place, any_places, answers}
use Rattle.search.proofs.Members.{In, in_either, in_front, in_behind, entered, before_entering}

module _ (q : Question) where
  -- some node of the row agrees with the word, and has a bound of no more than the cost
  abbrev pub Waits : List Node → ℕ → ℕ → Type 0
  Waits row word cost = (x : Node) × In x row × Agrees word x.decided x.turned × (x.bound ≤ cost)

  -- each word costs at least the best, or a node waits for it
  pub record Holds (best : Best) (row : List Node) : Type 0 where
    pub best_costs : Costs q best.turned best.cost
    pub nodes : (x : Node) → In x row → IsNode q x.decided x.turned
    pub waits : (word cost : ℕ) → Costs q word cost → (best.cost ≤ cost) ⊎ Waits row word cost

  moved : (best : Best) (x : Node) (xs row : List Node) (k : ℕ) → Holds best (x ∷ (xs ++ row)) → Holds best (xs ++ insert row k x)
  moved best x xs row k h = record {
    best_costs = h.best_costs;
    nodes = λ y i. h.nodes y (before_entering y x xs row k i);
    waits = λ word cost c. by word cost (h.waits word cost c);
  }
    where
      by : (word cost : ℕ) → (best.cost ≤ cost) ⊎ Waits (x ∷ (xs ++ row)) word cost → (best.cost ≤ cost) ⊎ Waits (xs ++ insert row k x) word cost
      by word cost (inl l) = inl l
      by word cost (inr (y, i, a, l)) = inr (y, entered y x xs row k i, a, l)

  -- with no node waiting, the best is the answer
  empty_answers : (best : Best) → Holds best [] → Least q best.turned best.cost
  empty_answers best h = (h.best_costs, λ word cost c. by word cost (h.waits word cost c))
    where
      by : (word cost : ℕ) → (best.cost ≤ cost) ⊎ Waits [] word cost → best.cost ≤ cost
      by word cost (inl l) = l
      by word cost (inr (x, i, a, l)) = absurd i

  -- other nodes may stand in the place of x, if they wait for what it waits for
  replaced : (best new : Best) (x : Node) (ys row : List Node) → Holds best (x ∷ row)
      → Costs q new.turned new.cost → new.cost ≤ best.cost
      → ((y : Node) → In y ys → IsNode q y.decided y.turned)
      → ((word cost : ℕ) → Costs q word cost → Agrees word x.decided x.turned → x.bound ≤ cost → (new.cost ≤ cost) ⊎ Waits ys word cost)
      → Holds new (ys ++ row)
  replaced best new x ys row h allowed less all wait = record {
    best_costs = allowed;
    nodes = λ y i. first y (in_either y ys row i);
    waits = λ word cost c. by word cost c (h.waits word cost c);
  }
    where
      first : (y : Node) → In y ys ⊎ In y row → IsNode q y.decided y.turned
      first y (inl i) = all y i
      first y (inr i) = h.nodes y (inr i)

      front : (word cost : ℕ) → (new.cost ≤ cost) ⊎ Waits ys word cost → (new.cost ≤ cost) ⊎ Waits (ys ++ row) word cost
      front word cost (inl l) = inl l
      front word cost (inr (y, i, a, l)) = inr (y, in_front y ys row i, a, l)

      by : (word cost : ℕ) → Costs q word cost → (best.cost ≤ cost) ⊎ Waits (x ∷ row) word cost → (new.cost ≤ cost) ⊎ Waits (ys ++ row) word cost
      by word cost c (inl l) = inl (omega arith)
      by word cost c (inr (y, inl e, a, l)) = front word cost (wait word cost c (let P : Node → Type 0 = λ z. Agrees word z.decided z.turned in subst P e a) (let P : Node → Type 0 = λ z. z.bound ≤ cost in subst P e l))
      by word cost c (inr (y, inr i, a, l)) = inr (y, in_behind y ys row i, a, l)

  module _ (searchable : IsSearchable q) where
    -- a step: the node is looked at, and leaves the row
    stepped : (best : Best) (x : Node) (row : List Node) → Holds best (x ∷ row)
        → Holds (best_after best x (look q best.cost x)) (children x (look q best.cost x) ++ row)
    stepped best x row h = by_bound (nat_lt x.bound best.cost) refl
      where
        own : IsNode q x.decided x.turned
        own = h.nodes x (inl refl)

        drop_it : ((word cost : ℕ) → Costs q word cost → Agrees word x.decided x.turned → x.bound ≤ cost → best.cost ≤ cost) → Holds best row
        drop_it d = replaced best best x [] row h h.best_costs (omega arith) (λ y i. absurd i) (λ word cost c a l. inl (d word cost c a l))

        at : (f : Finding) → q.finding x.decided x.turned ≡ f → (word cost : ℕ) → Costs q word cost → Agrees word x.decided x.turned → NoMoreThan q cost f
        at f e word cost c a = subst (NoMoreThan q cost) e (searchable.finds x.decided x.turned word cost own c a)

        by_done : (c : ℕ) → q.finding x.decided x.turned ≡ Done c → (b : Bool) → nat_lt c best.cost ≡ b → (let f = if b then Done c else Ring in Holds (best_after best x f) (children x f ++ row))
        by_done c e true t = replaced best (record { turned = x.turned; cost = c }) x [] row h (searchable.done x.decided x.turned c own e) (grind (arith, nat_tests)) (λ y i. absurd i) (λ word cost d a l. inl (at (Done c) e word cost d a))
        by_done c e false t = drop_it (λ word cost d a l. let m : c ≤ cost = at (Done c) e word cost d a in grind (arith, nat_tests))

        by_branch : (c j : ℕ) → q.finding x.decided x.turned ≡ Branch c j → (b : Bool) → nat_lt c best.cost ≡ b → (let f = if b then Branch c j else Ring in Holds (best_after best x f) (children x f ++ row))
        by_branch c j e true t = replaced best best x (children x (Branch c j)) row h h.best_costs (omega arith) each (λ word cost d a l. inr (one word cost (at (Branch c j) e word cost d a) (decides word x.decided x.turned j a)))
          where
            low : j < q.count
            low = (searchable.names x.decided x.turned c j e).0

            each : (y : Node) → In y (children x (Branch c j)) → IsNode q y.decided y.turned
            each y (inl i) = let P : Node → Type 0 = λ z. IsNode q z.decided z.turned in subst P (sym i) (kept_node q x.decided x.turned j own low)
            each y (inr (inl i)) = let P : Node → Type 0 = λ z. IsNode q z.decided z.turned in subst P (sym i) (turned_node q x.decided x.turned j own low)
            each y (inr (inr i)) = absurd i

            one : (word cost : ℕ) → c ≤ cost → Agrees word (with_bit x.decided j) x.turned ⊎ Agrees word (with_bit x.decided j) (with_bit x.turned j) → Waits (children x (Branch c j)) word cost
            one word cost l (inl a) = (_, inl refl, a, l)
            one word cost l (inr a) = (_, inr (inl refl), a, l)
        by_branch c j e false t = drop_it (λ word cost d a l. let m : c ≤ cost = at (Branch c j) e word cost d a in grind (arith, nat_tests))

        by_find : (f : Finding) → q.finding x.decided x.turned ≡ f → Holds (best_after best x (if_below best.cost f)) (children x (if_below best.cost f) ++ row)
        by_find Ring e = drop_it (λ word cost c a l. absurd (at Ring e word cost c a))
        by_find (Done c) e = by_done c e (nat_lt c best.cost) refl
        by_find (Branch c j) e = by_branch c j e (nat_lt c best.cost) refl

        by_bound : (b : Bool) → nat_lt x.bound best.cost ≡ b → (let f = if b then if_below best.cost (q.finding x.decided x.turned) else Ring in Holds (best_after best x f) (children x f ++ row))
        by_bound true e = by_find (q.finding x.decided x.turned) refl
        by_bound false e = drop_it (λ word cost c a l. grind (arith, nat_tests))

    abbrev At : ℕ → Best → List Node → List Node → Type 0
    At more best xs row = Holds best (xs ++ row)

    abbrev AnswersLeast : Result Found SearchFault → Type 0
    AnswersLeast r = IfOk r (λ found. Least q found.turned found.cost)

    -- of a whole search
    answers_least : (room budget : ℕ) (places : List ℕ) → AnswersLeast (searched q room budget places).answer
    answers_least room budget places = answers q room any_place At AnswersLeast empty spent full put step budget places (any_places (searched q room budget places).moves) begins
      where
        empty : (more taken : ℕ) (best : Best) → Holds best [] → AnswersLeast (Ok (record { turned = best.turned; cost = best.cost; taken = taken }))
        empty more taken best h = empty_answers best h

        spent : (taken : ℕ) (best : Best) (x : Node) (row : List Node) → Holds best (x ∷ row) → AnswersLeast (Err (Budget taken))
        spent taken best x row h = tt

        full : (more taken : ℕ) (best : Best) (x : Node) (xs row : List Node) → room ≤ length row → Holds best (x ∷ (xs ++ row)) → AnswersLeast (Err (Full taken))
        full more taken best x xs row long h = tt

        put : (more : ℕ) (best : Best) (x : Node) (xs row : List Node) (k : ℕ) → any_place k → Holds best (x ∷ (xs ++ row)) → Holds best (xs ++ insert row k x)
        put more best x xs row k a h = moved best x xs row k h

        step : (more : ℕ) (best : Best) (x : Node) (row : List Node) → Holds best (x ∷ row) → Holds (best_after best x (look q best.cost x)) (children x (look q best.cost x) ++ row)
        step more best x row h = stepped best x row h

        begins : Holds (record { turned = 0; cost = q.start }) (record { bound = 0; decided = 0; turned = 0 } ∷ [])
        begins = record {
          best_costs = searchable.in_force;
          nodes = λ x i. elim i as (λ i. IsNode q x.decided x.turned) [ inl e ↦ (let P : Node → Type 0 = λ z. IsNode q z.decided z.turned in subst P (sym e) (record { open_ones = searchable.in_force.0; among = refl })) | inr n ↦ absurd n ];
          waits = λ word cost c. inr (_, inl refl, and_zero word, omega arith);
        }

pub finds_least : FindsLeast
finds_least q searchable room budget places = answers_least q searchable room budget places

-- two that are least cost the same
one_cost : (q : Question) (r s : Result Found SearchFault) → IfOk r (λ found. Least q found.turned found.cost) → IfOk s (λ found. Least q found.turned found.cost) → IfOk r (λ found. IfOk s (λ other. found.cost ≡ other.cost))
one_cost q (Ok found) (Ok other) a b = omega (arith, a.1 other.turned other.cost b.0, b.1 found.turned found.cost a.0)
one_cost q (Ok found) (Err f) a b = tt
one_cost q (Err e) s a b = tt

pub finds_one_cost : FindsOneCost
finds_one_cost q searchable room budget places other_room other_budget other_places =
    one_cost q _ _ (answers_least q searchable room budget places) (answers_least q searchable other_room other_budget other_places)
