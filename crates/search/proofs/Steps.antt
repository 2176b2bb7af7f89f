-- What the calls of a list are to the course of a search.
use Rattle.std.proofs.Common.{◌≡◌, inl, inr, ℕ, suc, ◌+◌, Bool, true, false, nat_lt, List, [], ◌∷◌, drop, length, Result, Ok, Err, IsOk, IsErr, refl, sym, ap, ◌∙◌, subst, arith}
use Rattle.std.specs.Prelude.{if◌then◌else◌}
use Rattle.std.specs.List.{insert}
use Rattle.std.proofs.lemmas.Bool.{lt-ltb}
use Rattle.std.proofs.lemmas.Bool.Decides.{nat_tests}
use Rattle.lists.specs.Moves.{Move, Clear, Enters, Follows, Goes, Put, Puts, Refuse, Refuses, Take}
use Rattle.lists.specs.declared.node.Node.{Node}
use Rattle.search.specs.Questions.{Question}
use Rattle.search.specs.Reaching.{PutsEach, Reaches, Searches}
use Rattle.search.specs.Steps.{Course, after, best_after, children, ends, from_root, go_on, look, put_each}
use Rattle.search.specs.declared.found.Best.{Best}
use Rattle.search.specs.declared.found.Found.{Found}
use Rattle.search.specs.declared.found.SearchFault.{SearchFault}
use Rattle.search.specs.declared.found.SearchFault.TheVariants.{Full}

neither : {U F : Type 0} (r : Result U F) → IsOk r → IsErr r → ⊥
neither (Ok u) ok err = cc
neither (Err f) ok err = cc

module _ {L : Type 0} (nodes : L → List Node) (rule : L → Move Node → L → Type 0) (capacity : L → ℕ) where
  module _ (room taken : ℕ) (x : Node) (xs : List Node) (go : List Node → List ℕ → Course) where
    -- a put that is done
    pub entered : (old mid : L) (answer : Result Found SearchFault) (end : L) → Enters nodes rule capacity x old mid → capacity old ≡ room
        → Reaches nodes rule (put_each room taken xs go) answer mid end
        → Reaches nodes rule (put_each room taken (x ∷ xs) go) answer old end
    entered old mid answer end (fits, (k, (allowed, (within, is)))) size (places, a, m) =
        let rest : List Node → Course = λ row. put_each room taken xs go row places in
        let room_left : nat_lt (length (nodes old)) room ≡ true = lt-ltb _ _ (omega (arith, fits, size)) in
        let P : Bool → Type 0 = λ b. let c = if b then after (Put x k) (rest (insert (nodes old) k x)) else after (Refuse x) (ends (Err (Full taken))) in (answer ≡ c.answer) × Follows nodes rule old c.moves end in
        let Q : List Node → Type 0 = λ row. (answer ≡ (rest row).answer) × Follows nodes rule mid (rest row).moves end in
        let q = subst Q is (a, m) in
        let p : P true = (q.0, (mid, (allowed, (within, is)), q.1)) in
        let all = subst P (sym room_left) p in
        (k ∷ places, all.0, all.1)

    -- a put that is refused
    refused : (old new end : L) → Refuses nodes rule capacity x old new → capacity old ≡ room → Goes nodes rule new Clear end
        → Reaches nodes rule (put_each room taken (x ∷ xs) go) (Err (Full taken)) old end
    refused old new end (full, goes) size cleared =
        let no_room : nat_lt (length (nodes old)) room ≡ false = grind (arith, nat_tests, full, size) in
        let P : Bool → Type 0 = λ b. let c = if b then after (Put x 0) (put_each room taken xs go (insert (nodes old) 0 x) []) else after (Refuse x) (ends (Err (Full taken))) in (Err (Full taken) ≡ c.answer) × Follows nodes rule old c.moves end in
        let p : P false = (refl, (new, goes, (end, cleared, refl))) in
        let all = subst P (sym no_room) p in
        ([], all.0, all.1)

  pub enters : {U F : Type 0} (x : Node) (r : Result U F) (old new : L) → IsOk r → Puts nodes rule capacity x r old new → Enters nodes rule capacity x old new
  enters x (Ok u) old new ok p = p
  enters x (Err f) old new ok p = cc

  -- a put that is the last of several
  pub last : {U F : Type 0} (x : Node) (r : Result U F) (old new : L) → Puts nodes rule capacity x r old new → capacity new ≡ capacity old → PutsEach nodes rule capacity (x ∷ []) r old new
  last x (Ok u) old new p size = inr (new, p, size, (refl, refl))
  last x (Err f) old new p size = inl (refl, p)

  -- puts of several nodes, done or cut off by a refusal
  module _ {U F : Type 0} (room taken : ℕ) (go : List Node → List ℕ → Course) (r : Result U F) where
    each_on : (xs : List Node) (old new : L) (answer : Result Found SearchFault) (end : L) → IsOk r → PutsEach nodes rule capacity xs r old new → capacity old ≡ room
        → Reaches nodes rule go answer new end
        → Reaches nodes rule (put_each room taken xs go) answer old end
    each_on [] old new answer end ok (done, same) size reach = let P : L → Type 0 = λ l. Reaches nodes rule go answer l end in subst P same reach
    each_on (x ∷ xs) old new answer end ok (inl (err, p)) size reach = absurd (neither r ok err)
    each_on (x ∷ xs) old new answer end ok (inr (mid, p, kept, each)) size reach =
        entered room taken x xs go old mid answer end p size (each_on xs mid new answer end ok each (kept ∙ size) reach)

    each_off : (xs : List Node) (old new end : L) → IsErr r → PutsEach nodes rule capacity xs r old new → capacity old ≡ room → Goes nodes rule new Clear end
        → Reaches nodes rule (put_each room taken xs go) (Err (Full taken)) old end
    each_off [] old new end err (done, same) size cleared = absurd (neither r done err)
    each_off (x ∷ xs) old new end err (inl (is, p)) size cleared = refused room taken x xs go old new end p size cleared
    each_off (x ∷ xs) old new end err (inr (mid, p, kept, each)) size cleared =
        entered room taken x xs go old mid (Err (Full taken)) end p size (each_off xs mid new end err each (kept ∙ size) cleared)

  -- a node is taken and looked at, and those that it leads to are put
  module _ {U F : Type 0} (q : Question) (room left more taken : ℕ) (one_more : left ≡ suc more) (best : Best) (x : Node) (r : Result U F) (old mid new : L)
      (allowed : rule old Take mid) (first : nodes old ≡ x ∷ nodes mid) (each : PutsEach nodes rule capacity (children x (look q best.cost x)) r mid new) (size : capacity mid ≡ room) where
    abbrev Next : Result Found SearchFault → L → Type 0
    Next answer end = Reaches nodes rule (put_each room (taken + 1) (children x (look q best.cost x)) (go_on q room more (taken + 1) (best_after best x (look q best.cost x)))) answer mid end

    taken_on : (answer : Result Found SearchFault) (end : L) → Next answer end → Reaches nodes rule (go_on q room left taken best) answer old end
    taken_on answer end (places, a, m) =
        let P : ℕ → List Node → Type 0 = λ n row. let c = go_on q room n taken best row places in (answer ≡ c.answer) × Follows nodes rule old c.moves end in
        let rest_is : nodes mid ≡ drop 1 (nodes old) = ap (drop 1) (sym first) in
        let here : P (suc more) (x ∷ nodes mid) = (a, (mid, (allowed, rest_is), m)) in
        let all = subst (λ (row : List Node). P left row) (sym first) (subst (λ (n : ℕ). P n (x ∷ nodes mid)) (sym one_more) here) in
        (places, all.0, all.1)

    pub step_on : (next : Best) (answer : Result Found SearchFault) (end : L) → next ≡ best_after best x (look q best.cost x) → IsOk r
        → Reaches nodes rule (go_on q room more (taken + 1) next) answer new end → Reaches nodes rule (go_on q room left taken best) answer old end
    step_on next answer end is ok reach =
        let P : Best → Type 0 = λ b. Reaches nodes rule (go_on q room more (taken + 1) b) answer new end in
        taken_on answer end (each_on room (taken + 1) _ r _ mid new answer end ok each size (subst P is reach))

    pub step_off : (end : L) → IsErr r → Goes nodes rule new Clear end → Reaches nodes rule (go_on q room left taken best) (Err (Full (taken + 1))) old end
    step_off end err cleared = taken_on _ end (each_off room (taken + 1) _ r _ mid new end err each size cleared)

  -- the whole of it, of a list that is cleared first
  pub searches : (q : Question) (room budget : ℕ) (answer : Result Found SearchFault) (old empty end : L) → Goes nodes rule old Clear empty → Reaches nodes rule (from_root q room budget) answer empty end → Searches nodes rule q room budget answer old end
  searches q room budget answer old empty end cleared (places, a, m) =
      let P : List Node → Type 0 = λ row. let c = from_root q room budget row places in (answer ≡ c.answer) × Follows nodes rule empty c.moves end in
      let all = subst P cleared.1 (a, m) in
      record { places = places; answers = all.0; leads = (empty, cleared, all.1) }
