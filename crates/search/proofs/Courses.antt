-- What holds of the answer of a course: by a fact that holds from row to row.
use Rattle.std.proofs.Common.{◌≡◌, ℕ, zero, suc, ◌+◌, ◌≤◌, Bool, true, false, nat_lt, List, [], ◌∷◌, drop, length, slice_index, Result, Ok, Err, refl, arith}
use Rattle.std.proofs.lemmas.Bool.Decides.{nat_tests}
use Rattle.std.specs.Prelude.{if◌then◌else◌}
use Rattle.std.specs.List.{insert}
use Rattle.lists.specs.Moves.{Move, Clear, Put, Refuse, Take}
use Rattle.lists.specs.declared.node.Node.{Node}
use Rattle.search.specs.Questions.{Question}
use Rattle.search.specs.Steps.{Course, after, best_after, children, ends, go_on, look, put_each, searched}
use Rattle.search.specs.declared.found.Best.{Best}
use Rattle.search.specs.declared.found.Found.{Found}
use Rattle.search.specs.declared.found.SearchFault.{SearchFault}
use Rattle.search.specs.declared.found.SearchFault.TheVariants.{Full, Budget}

-- what holds of each place
abbrev pub PlacesAre : (ℕ → Type 0) → List (Move Node) → Type 0
PlacesAre A [] = Unit {0}
PlacesAre A (Clear ∷ moves) = PlacesAre A moves
PlacesAre A (Put x place ∷ moves) = A place × PlacesAre A moves
PlacesAre A (Refuse x ∷ moves) = PlacesAre A moves
PlacesAre A (Take ∷ moves) = PlacesAre A moves

abbrev pub any_place : ℕ → Type 0
any_place place = Unit {0}

pub any_places : (moves : List (Move Node)) → PlacesAre any_place moves
any_places [] = tt
any_places (Clear ∷ moves) = any_places moves
any_places (Put x place ∷ moves) = (tt, any_places moves)
any_places (Refuse x ∷ moves) = any_places moves
any_places (Take ∷ moves) = any_places moves

-- `At more best xs row`: so it is where so many nodes may still be taken, xs are about to be put, and the row waits
module _ (q : Question) (room : ℕ) (A : ℕ → Type 0) (At : ℕ → Best → List Node → List Node → Type 0) (P : Result Found SearchFault → Type 0)
    (empty : (more taken : ℕ) (best : Best) → At more best [] [] → P (Ok (record { turned = best.turned; cost = best.cost; taken = taken })))
    (spent : (taken : ℕ) (best : Best) (x : Node) (row : List Node) → At zero best [] (x ∷ row) → P (Err (Budget taken)))
    (full : (more taken : ℕ) (best : Best) (x : Node) (xs row : List Node) → room ≤ length row → At more best (x ∷ xs) row → P (Err (Full taken)))
    (put : (more : ℕ) (best : Best) (x : Node) (xs row : List Node) (k : ℕ) → A k → At more best (x ∷ xs) row → At more best xs (insert row k x))
    (step : (more : ℕ) (best : Best) (x : Node) (row : List Node) → At (suc more) best [] (x ∷ row) → At more (best_after best x (look q best.cost x)) (children x (look q best.cost x)) row) where
  puts_answer : (more taken : ℕ) (best : Best) (xs : List Node) (go : List Node → List ℕ → Course) (row : List Node) (places : List ℕ)
      → ((row : List Node) (places : List ℕ) → PlacesAre A (go row places).moves → At more best [] row → P (go row places).answer)
      → PlacesAre A (put_each room taken xs go row places).moves → At more best xs row → P (put_each room taken xs go row places).answer
  puts_answer more taken best [] go row places on ps h = on row places ps h
  puts_answer more taken best (x ∷ xs) go row places on ps h =
      by _ (nat_lt (length row) room) refl (λ a ps. puts_answer more taken best xs go (insert row at x) (drop 1 places) on ps (put more best x xs row at a h)) ps
    where
      at : ℕ
      at = slice_index places 0

      by : (c : Course) (b : Bool) → nat_lt (length row) room ≡ b → (A at → PlacesAre A c.moves → P c.answer)
          → (let d = if b then after (Put x at) c else after (Refuse x) (ends (Err (Full taken))) in PlacesAre A d.moves → P d.answer)
      by c true t p (a, ps) = p a ps
      by c false t p ps = full more taken best x xs row (grind (arith, nat_tests, t)) h

  course_answers : (more taken : ℕ) (best : Best) (row : List Node) (places : List ℕ) → PlacesAre A (go_on q room more taken best row places).moves → At more best [] row → P (go_on q room more taken best row places).answer
  course_answers zero taken best [] places ps h = empty zero taken best h
  course_answers zero taken best (x ∷ row) places ps h = spent taken best x row h
  course_answers (suc more) taken best [] places ps h = empty (suc more) taken best h
  course_answers (suc more) taken best (x ∷ row) places ps h =
      let f = look q best.cost x in
      puts_answer more (taken + 1) (best_after best x f) (children x f) (go_on q room more (taken + 1) (best_after best x f)) row places
      (λ row places ps h. course_answers more (taken + 1) (best_after best x f) row places ps h) ps (step more best x row h)

  -- of a whole search
  pub answers : (budget : ℕ) (places : List ℕ) → PlacesAre A (searched q room budget places).moves
      → At budget (record { turned = 0; cost = q.start }) (record { bound = 0; decided = 0; turned = 0 } ∷ []) [] → P (searched q room budget places).answer
  answers budget places ps h =
      let best : Best = record { turned = 0; cost = q.start } in
      puts_answer budget 0 best (record { bound = 0; decided = 0; turned = 0 } ∷ []) (go_on q room budget 0 best) [] places
      (λ row places ps h. course_answers budget 0 best row places ps h) ps h
