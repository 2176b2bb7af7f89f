-- What is found where all open meetings are decided: what the orders of a word cost.
use Rattle.std.proofs.Common.{◌≡◌, ℕ, ◌-◌, ◌^◌, Bool, true, not, ◌&&◌, eqb, length, slice_index, Some, None, Option, sym, refl, ap, ◌∙◌, inl, inr, IsTrue}
use Rattle.std.specs.Prelude.{if◌then◌else◌}
use Rattle.std.specs.Option.{option_map}
use Rattle.std.proofs.lemmas.Bool.{cases_Bool}
use Rattle.std.proofs.lemmas.List.{length-map}
use Rattle.std.proofs.lemmas.List.FromFn.{fill_by_all}
use Rattle.std.proofs.lemmas.Nat.Bits.{bit_at_ones}
use Rattle.meetings.specs.declared.meet.First.{First}
use Rattle.costs.specs.Laws.{IsCost}
use Rattle.search.specs.Questions.{Question}
use Rattle.search.specs.declared.finding.Finding.{Finding}
use Rattle.search.specs.declared.finding.Finding.TheVariants.{Ring, Done}
use Rattle.traffic.specs.Plans.{named}
use Rattle.traffic.specs.Scene.{Numbers}
use Rattle.traffic.specs.Ticks.{entry_ticks}
use Rattle.floor.specs.Words.{bit}
use Rattle.run.specs.Opens.{open_at, open_meetings, rank}
use Rattle.run.specs.Sound.{RunsSoundly}
use Rattle.run.specs.State.{State, count_on, scene_under}
use Rattle.redraw.specs.Costs.{cost_of, total_by}
use Rattle.redraw.specs.Nodes.{leaves_before, lowest, found_by, found_at, finding, question}
use Rattle.redraw.specs.Orders.{first_by, orders_of_word, order_by, orders_of}
use Rattle.redraw.proofs.Below.{Below}
use Rattle.redraw.proofs.Lowest.{none_is}
use Rattle.redraw.proofs.Scenes.{full, full-at, opens}
use Rattle.redraw.proofs.Wording.{word_count}

module _ (b : Below) (start : ℕ) (next : ℕ → ℕ → ℕ → ℕ) (st : State) (cost_keeps : IsCost start next) (sound : RunsSoundly st) where
  abbrev pub n : ℕ
  n = count_on st

  abbrev pub q : Question
  q = question start next st

  -- where all are decided
  abbrev pub everything : ℕ
  everything = 2 ^ length (open_meetings st) - 1

  decided_there : (j : ℕ) → IsTrue (open_at st j) → bit everything (rank st j) ≡ true
  decided_there j t = let o = opens b st sound in ap (λ v. eqb v 1) (bit_at_ones (length (open_meetings st)) (rank st j) (o.listed j ((o.test j).0 t)).0)

  -- no meeting is left out
  none_left_out : (word j : ℕ) → order_by st everything word j ≡ Some (first_by st word j)
  none_left_out word j =
      let P : Bool → Option First = λ left. if left then None else Some (first_by st word j) in
      elim (cases_Bool (open_at st j)) [
        | inl t ↦ ap (λ b. P (b && not (bit everything (rank st j)))) t ∙ ap (λ b. P (not b)) (decided_there j t)
        | inr f ↦ ap (λ b. P (b && not (bit everything (rank st j)))) f
      ]

  complete_orders : (word : ℕ) → orders_of st everything word ≡ named (orders_of_word st word)
  complete_orders word =
      sym (fill_by_all (order_by st everything word) (named (orders_of_word st word)) (length st.firsts) None (length-map (orders_of_word st word) (λ f. Some f) ∙ word_count st (opens b st sound) word) (λ j lt.
      full-at b st sound word j lt ∙ sym (none_left_out word j)))

  -- and none is violated
  none_lowest : (e : Numbers) → lowest st everything e ≡ None
  none_lowest e = none_is st everything e (λ i low. ap (λ b. not b && not (leaves_before st e (slice_index (open_meetings st) i))) (ap (λ v. eqb v 1) (bit_at_ones (length (open_meetings st)) i low)))

  -- what is found then
  abbrev found_complete : ℕ → Option Numbers → Finding
  found_complete word None = Ring
  found_complete word (Some e) = Done (total_by start next st (full b st sound word) e)

  found_at-everything : (word : ℕ) (o : Option Numbers) → found_at start next st (full b st sound word) everything o ≡ found_complete word o
  found_at-everything word None = refl
  found_at-everything word (Some e) = ap (found_by (total_by start next st (full b st sound word) e)) (none_lowest e)

  finding-everything : (word : ℕ) → finding start next st everything word ≡ found_complete word (entry_ticks (full b st sound word) n)
  unfolding finding
  finding-everything word =
      ap (λ os. let c = scene_under st os in found_at start next st c everything (entry_ticks c n)) (complete_orders word)
      ∙ found_at-everything word (entry_ticks (full b st sound word) n)

  -- what a word costs, as the search and as a run sees it
  pub record Ticks (word cost : ℕ) : Type 0 where
    pub ticks : Numbers
    pub are : entry_ticks (full b st sound word) n ≡ Some ticks
    pub total : total_by start next st (full b st sound word) ticks ≡ cost

  found_ticks : (word cost : ℕ) (o : Option Numbers) → entry_ticks (full b st sound word) n ≡ o → found_complete word o ≡ Done cost → Ticks word cost
  found_ticks word cost None e h = cc
  found_ticks word cost (Some ticks) e h = record { ticks = ticks; are = e; total = cc }

  pub ticks_of : (word cost : ℕ) → finding start next st everything word ≡ Done cost → Ticks word cost
  ticks_of word cost h = found_ticks word cost (entry_ticks (full b st sound word) n) refl (sym (finding-everything word) ∙ h)

  pub found_with : (word cost : ℕ) → Ticks word cost → finding start next st everything word ≡ Done cost
  found_with word cost t = finding-everything word ∙ ap (found_complete word) t.are ∙ ap Done t.total

  pub costs_of : (word cost : ℕ) → Ticks word cost → cost_of start next st (orders_of_word st word) ≡ Some cost
  unfolding cost_of
  costs_of word cost t = ap (option_map (total_by start next st (full b st sound word))) t.are ∙ ap (λ c. Some c) t.total

  cost_ticks : (word cost : ℕ) (o : Option Numbers) → entry_ticks (full b st sound word) n ≡ o → option_map (total_by start next st (full b st sound word)) o ≡ Some cost → Ticks word cost
  cost_ticks word cost None e h = cc
  cost_ticks word cost (Some ticks) e h = record { ticks = ticks; are = e; total = cc }

  pub ticks_costing : (word cost : ℕ) → cost_of start next st (orders_of_word st word) ≡ Some cost → Ticks word cost
  unfolding cost_of
  ticks_costing word cost h = cost_ticks word cost (entry_ticks (full b st sound word) n) refl h
