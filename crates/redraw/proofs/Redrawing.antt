-- What is redrawn is best.
use Rattle.std.proofs.Common.{◌≡◌, ℕ, List, Some, Result, Ok, Err, IfOk, IsOk, sym, refl, ap, ◌∙◌, arith}
use Rattle.costs.specs.Laws.{IsCost}
use Rattle.lists.specs.Moves.{Move}
use Rattle.lists.specs.declared.node.Node.{Node}
use Rattle.search.specs.Laws.{FindsLeast, FindsWithRoom}
use Rattle.search.specs.Questions.{Least}
use Rattle.search.specs.Reaching.{Searches}
use Rattle.search.specs.Steps.{searched}
use Rattle.search.specs.declared.found.Found.{Found}
use Rattle.search.specs.declared.found.SearchFault.{SearchFault}
use Rattle.run.specs.Sound.{RunsSoundly}
use Rattle.run.specs.State.{State}
use Rattle.redraw.specs.Costs.{IsBest, cost_of}
use Rattle.redraw.specs.Laws.{RunsAreSearchable, RedrawsBest, RedrawsOneCost, RedrawsWithRoom, WordsStandForOrders}
use Rattle.redraw.specs.Nodes.{question}
use Rattle.redraw.specs.Orders.{orders_of_word}
use Rattle.redraw.specs.Redraws.{OneCost, drawn, in_orders, redrawn, Redraws}
use Rattle.redraw.specs.declared.redrawn.RedrawFault.{RedrawFault}
use Rattle.redraw.specs.declared.redrawn.Redrawn.{Redrawn}
use Rattle.redraw.proofs.Asking.{lawful, searchable}
use Rattle.redraw.proofs.Below.{Below}
use Rattle.redraw.proofs.Complete.{costs_of, found_with, ticks_costing, ticks_of}
use Rattle.redraw.proofs.Scenes.{as_many, opens}
use Rattle.redraw.proofs.Wording.{words_law}

module _ (b : Below) (start : ℕ) (next : ℕ → ℕ → ℕ → ℕ) (st : State) (cost_keeps : IsCost start next) (sound : RunsSoundly st) where
  -- what is least of all words is best of all lawful orders
  pub least_best : (word cost : ℕ) → Least (question start next st) word cost → IsBest start next st (orders_of_word st word) cost
  least_best word cost least =
      let t = ticks_of b start next st cost_keeps sound word cost least.0.1 in
      let words = words_law st (opens b st sound) in
      record {
        lawful = lawful b start next st cost_keeps sound word cost t;
        costs = costs_of b start next st cost_keeps sound word cost t;
        least = λ others more allowed costs.
            let w = words.all others (allowed.count ∙ sym (as_many b st sound)) allowed.agree in
            let same : cost_of start next st (orders_of_word st w.0) ≡ Some more = ap (cost_of start next st) (sym w.2) ∙ costs in
            least.1 w.0 more (w.1, found_with b start next st cost_keeps sound w.0 more (ticks_costing b start next st cost_keeps sound w.0 more same));
      }

  pub answers_best : (r : Result Found SearchFault) → IfOk r (λ found. Least (question start next st) found.turned found.cost) → IfOk (in_orders st r) (λ r. IsBest start next st r.orders r.cost)
  answers_best (Ok found) least = least_best found.turned found.cost least
  answers_best (Err fault) least = tt

-- one that is best costs what another does
as_cheap : (start : ℕ) (next : ℕ → ℕ → ℕ → ℕ) (st : State) (r : Redrawn) (other : Result Redrawn RedrawFault)
    → IsBest start next st r.orders r.cost → IfOk other (λ other. IsBest start next st other.orders other.cost) → IfOk other (λ other. other.cost ≡ r.cost)
as_cheap start next st r (Ok other) p q = omega (arith, p.least other.orders other.cost q.lawful q.costs, q.least r.orders r.cost p.lawful p.costs)
as_cheap start next st r (Err fault) p q = tt

-- so one that is best costs what all do
one_cost : (start : ℕ) (next : ℕ → ℕ → ℕ → ℕ) (st : State) (r : Result Redrawn RedrawFault)
    → IfOk r (λ r. IsBest start next st r.orders r.cost)
    → ((capacity budget : ℕ) (places : List ℕ) → IfOk (redrawn start next st capacity budget places) (λ other. IsBest start next st other.orders other.cost))
    → IfOk r (λ r. OneCost start next st r.cost)
one_cost start next st (Ok r) best all = λ capacity budget places. as_cheap start next st r (redrawn start next st capacity budget places) best (all capacity budget places)
one_cost start next st (Err fault) best all = tt

some_ok : (st : State) (r : Result Found SearchFault) → IsOk r → IsOk (in_orders st r)
some_ok st (Ok found) ok = refl
some_ok st (Err fault) ok = cc

module _ (b : Below) where
  pub words_stand : WordsStandForOrders
  words_stand st = words_law st (b.runs.opens st)

  pub runs_searchable : RunsAreSearchable
  runs_searchable start next st cost_keeps can = searchable b start next st cost_keeps can.sound can.few

  pub redraws_best : FindsLeast → RedrawsBest
  unfolding drawn redrawn
  redraws_best finds start next st cost_keeps can capacity budget places =
      answers_best b start next st cost_keeps can.sound (searched (question start next st) capacity budget places).answer
      (finds (question start next st) (runs_searchable start next st cost_keeps can) capacity budget places)

  pub redraws_one_cost : FindsLeast → RedrawsOneCost
  redraws_one_cost finds start next st cost_keeps can capacity budget places =
      let all = redraws_best finds start next st cost_keeps can in
      one_cost start next st (redrawn start next st capacity budget places) (all capacity budget places) all

  pub redraws_with_room : FindsWithRoom → RedrawsWithRoom
  unfolding drawn redrawn
  redraws_with_room finds start next st cost_keeps can capacity budget places wide long =
      some_ok st (searched (question start next st) capacity budget places).answer (finds (question start next st) (runs_searchable start next st cost_keeps can) capacity budget places wide long)

-- what the search makes of a list is what a redrawing does
pub redraws_of : {L : Type 0} (nodes : L → List Node) (rule : L → Move Node → L → Type 0) (start : ℕ) (next : ℕ → ℕ → ℕ → ℕ) (st : State) (capacity budget : ℕ) (found : Result Found SearchFault) (old new : L)
    → Searches nodes rule (question start next st) capacity budget found old new → (answer : Result Redrawn RedrawFault) → answer ≡ in_orders st found
    → Redraws start next st capacity budget nodes rule answer old new
unfolding drawn redrawn
redraws_of nodes rule start next st capacity budget found old new s answer is = record { places = s.places; answers = is ∙ ap (in_orders st) s.answers; leads = s.leads }
