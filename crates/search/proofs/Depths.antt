-- A list that puts only first is never longer than there are meetings, and one: each node that waits has decided more of them than those behind it.
use Rattle.std.proofs.Common.{◌≡◌, inl, inr, ℕ, zero, suc, ◌+◌, ◌^◌, ◌<◌, ◌≤◌, Bool, true, false, nat_lt, List, [], ◌∷◌, ◌++◌, length, Ok, Err, IsOk, refl, sym, subst, arith}
use Rattle.std.specs.Prelude.{if◌then◌else◌}
use Rattle.std.specs.List.{insert}
use Rattle.lists.specs.Moves.{Move, Clear, Put, Refuse, Take, Follows, PutsFirst}
use Rattle.lists.specs.declared.node.Node.{Node}
use Rattle.search.specs.Questions.{Question, IsSearchable}
use Rattle.search.specs.Reaching.{HasRoom}
use Rattle.search.specs.Steps.{best_after, children, if_below, look, searched}
use Rattle.search.specs.declared.finding.Finding.{Finding}
use Rattle.search.specs.declared.finding.Finding.TheVariants.{Ring, Done, Branch}
use Rattle.search.specs.declared.found.Best.{Best}
use Rattle.search.specs.declared.found.Found.{Found}
use Rattle.search.specs.declared.found.SearchFault.{SearchFault}
use Rattle.search.specs.declared.found.SearchFault.TheVariants.{Full, Budget}
use Rattle.search.proofs.Courses.{PlacesAre, answers}
use Rattle.search.proofs.Weights.{Enough, clear_bits, clear_bits-with_bit, clear_bits-zero, entering, finds_with_room, looked, never_spent, root_enough}

-- the place of every put
abbrev is_first : ℕ → Type 0
is_first place = place ≡ 0

pub first_places : {L : Type 0} (nodes : L → List Node) (rule : L → Move Node → L → Type 0) → PutsFirst rule → (moves : List (Move Node)) (old new : L) → Follows nodes rule old moves new → PlacesAre is_first moves
first_places nodes rule first [] old new f = tt
first_places nodes rule first (Clear ∷ moves) old new (mid, goes, f) = first_places nodes rule first moves mid new f
first_places nodes rule first (Put x place ∷ moves) old new (mid, goes, f) = (first old mid x place goes.0, first_places nodes rule first moves mid new f)
first_places nodes rule first (Refuse x ∷ moves) old new (mid, goes, f) = first_places nodes rule first moves mid new f
first_places nodes rule first (Take ∷ moves) old new (mid, goes, f) = first_places nodes rule first moves mid new f

module _ (q : Question) (searchable : IsSearchable q) where
  -- how many meetings a node has not decided
  undecided : Node → ℕ
  undecided x = clear_bits q.count x.decided

  -- no more of a row wait from a node on than it has decided, and one
  abbrev Deep : List Node → Type 0
  Deep [] = Unit {0}
  Deep (x ∷ row) = (undecided x + length row ≤ q.count) × Deep row

  -- nodes that may lead the row, if so many wait then
  abbrev MayLead : ℕ → List Node → Type 0
  MayLead long [] = Unit {0}
  MayLead long (x ∷ xs) = (undecided x + long ≤ q.count + 1) × MayLead long xs

  record At (more : ℕ) (best : Best) (xs row : List Node) : Type 0 where
    lead : MayLead (length xs + length row) xs
    deep : Deep row
    enough : Enough q searchable (2 ^ q.count) more (xs ++ row)

  leads : (best : ℕ) (x : Node) (row : List Node) → undecided x + length row ≤ q.count → let xs = children x (look q best x) in MayLead (length xs + length row) xs
  unfolding undecided
  leads best x row less = by_bound (nat_lt x.bound best)
    where
      by_find : (f : Finding) → q.finding x.decided x.turned ≡ f → let xs = children x (if_below best f) in MayLead (length xs + length row) xs
      by_find Ring e = tt
      by_find (Done c) e = elim (nat_lt c best) as (λ b. let xs = children x (if b then Done c else Ring) in MayLead (length xs + length row) xs) [ true ↦ tt | false ↦ tt ]
      by_find (Branch c j) e =
          let named = searchable.names x.decided x.turned c j e in
          let fewer = clear_bits-with_bit q.count x.decided j named.0 named.1 in
          elim (nat_lt c best) as (λ b. let xs = children x (if b then Branch c j else Ring) in MayLead (length xs + length row) xs) [
            | true ↦ (omega (arith, less, fewer), (omega (arith, less, fewer), tt))
            | false ↦ tt
          ]

      by_bound : (b : Bool) → let xs = children x (if b then if_below best (q.finding x.decided x.turned) else Ring) in MayLead (length xs + length row) xs
      by_bound true = by_find (q.finding x.decided x.turned) refl
      by_bound false = tt

  root_undecided : undecided (record { bound = 0; decided = 0; turned = 0 }) ≡ q.count
  unfolding undecided
  root_undecided = clear_bits-zero q.count

  found_by_depth : (room budget : ℕ) (places : List ℕ) → q.count < room → 2 ^ (q.count + 1) ≤ budget + 1 → PlacesAre is_first (searched q room budget places).moves → IsOk (searched q room budget places).answer
  found_by_depth room budget places wide long ps = answers q room is_first At (λ r. IsOk r) empty spent full put step budget places ps begins
    where
      empty : (more taken : ℕ) (best : Best) → At more best [] [] → IsOk {E = SearchFault} (Ok (let found : Found = record { turned = best.turned; cost = best.cost; taken = taken } in found))
      empty more taken best h = refl

      spent : (taken : ℕ) (best : Best) (x : Node) (row : List Node) → At zero best [] (x ∷ row) → IsOk {T = Found} (Err (Budget taken))
      spent taken best x row h = absurd (never_spent q searchable (2 ^ q.count) x row h.enough)

      full : (more taken : ℕ) (best : Best) (x : Node) (xs row : List Node) → room ≤ length row → At more best (x ∷ xs) row → IsOk {T = Found} (Err (Full taken))
      full more taken best x xs row le h = absurd (omega (arith, h.lead.0, le, wide))

      put_first : (more : ℕ) (best : Best) (x : Node) (xs row : List Node) → At more best (x ∷ xs) row → At more best xs (x ∷ row)
      put_first more best x xs row h = record {
        lead = (let e : length (x ∷ xs) + length row ≡ length xs + length (x ∷ row) = omega arith in subst (λ n. MayLead n xs) e h.lead.1);
        deep = (omega (arith, h.lead.0), h.deep);
        enough = entering q searchable (2 ^ q.count) more x xs row 0 h.enough;
      }

      put : (more : ℕ) (best : Best) (x : Node) (xs row : List Node) (k : ℕ) → is_first k → At more best (x ∷ xs) row → At more best xs (insert row k x)
      put more best x xs row k first h = subst (λ k. At more best xs (insert row k x)) (sym first) (put_first more best x xs row h)

      step : (more : ℕ) (best : Best) (x : Node) (row : List Node) → At (suc more) best [] (x ∷ row) → At more (best_after best x (look q best.cost x)) (children x (look q best.cost x)) row
      step more best x row h = record { lead = leads best.cost x row h.deep.0; deep = h.deep.1; enough = looked q searchable (2 ^ q.count) more best.cost x row h.enough }

      begins : At budget (record { turned = 0; cost = q.start }) (record { bound = 0; decided = 0; turned = 0 } ∷ []) []
      begins = record { lead = (omega (arith, root_undecided), tt); deep = tt; enough = root_enough q searchable (2 ^ q.count) budget (omega arith) long }

  -- in a list that has room
  pub found_in_room : {L : Type 0} (nodes : L → List Node) (rule : L → Move Node → L → Type 0) (room budget : ℕ) (places : List ℕ) (old new : L) → Follows nodes rule old (searched q room budget places).moves new
      → HasRoom q.count rule room → 2 ^ (q.count + 1) ≤ budget + 1 → IsOk (searched q room budget places).answer
  found_in_room nodes rule room budget places old new leads (inl wide) long = finds_with_room q searchable room budget places wide long
  found_in_room nodes rule room budget places old new leads (inr (first, wide)) long =
      found_by_depth room budget places wide long (first_places nodes rule first (searched q room budget places).moves old new leads)
