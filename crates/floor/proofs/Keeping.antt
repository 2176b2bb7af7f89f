-- What ticks and holds keep, and whom words name.
use Rattle.std.proofs.Common.{◌≡◌, ℕ, suc, ◌<◌, ◌≤◌, List, length, None, Some, sym, inl, inr, ◌∙◌}
use Rattle.std.proofs.lemmas.Bool.{cases_lt, lt-ltb, le-ltb, lt-leb, cond-true, cond-false}
use Rattle.std.proofs.lemmas.Option.{none-some}
use Rattle.files.specs.declared.plan.Stop.{Stop}
use Rattle.files.specs.Rules.{path_at}
use Rattle.traffic.specs.Safety.{MovesExactly}
use Rattle.floor.specs.declared.floor.calls.FloorFault.TheVariants.{NoShuttle, AtLastStop, LongHold}
use Rattle.floor.specs.declared.floor.calls.TheConstants.{LONGEST_HOLD}
use Rattle.floor.specs.declared.table.Shuttle.{Shuttle}
use Rattle.floor.specs.Calls.{fault_of_hold}
use Rattle.floor.specs.Laws.{HoldsKeepPlaced, WordsNameMovers}
use Rattle.floor.specs.Scenes.{movers}
use Rattle.floor.specs.Shuttles.{stop_in}
use Rattle.floor.proofs.Scenes.{past_stays, placed_hold}
use Rattle.floor.proofs.Words.{word-bit, word_past}

module _ (ps : List (List Stop)) (xs : List Shuttle) (s ticks : ℕ) where
  -- the faults of a hold, in their order
  nobody : length ps ≤ s → fault_of_hold ps xs s ticks ≡ Some NoShuttle
  nobody g = cond-false _ _ _ (le-ltb s (length ps) g)

  module _ (lt : s < length ps) where
    home : length (path_at ps s) ≤ suc (stop_in xs s) → fault_of_hold ps xs s ticks ≡ Some AtLastStop
    home g = cond-true _ _ _ (lt-ltb s (length ps) lt) ∙ cond-false _ _ _ (le-ltb (suc (stop_in xs s)) (length (path_at ps s)) g)

    long : suc (stop_in xs s) < length (path_at ps s) → LONGEST_HOLD < ticks → fault_of_hold ps xs s ticks ≡ Some LongHold
    long on g =
        cond-true _ _ _ (lt-ltb s (length ps) lt) ∙ cond-true _ _ _ (lt-ltb (suc (stop_in xs s)) (length (path_at ps s)) on)
        ∙ cond-false _ _ _ (lt-leb ticks LONGEST_HOLD g)

  -- one that has none of them
  taken : fault_of_hold ps xs s ticks ≡ None → (s < length ps) × (suc (stop_in xs s) < length (path_at ps s)) × (ticks ≤ LONGEST_HOLD)
  taken e = elim (cases_lt s (length ps)) [
    | inr g ↦ absurd (none-some NoShuttle (sym e ∙ nobody g))
    | inl l ↦ elim (cases_lt (suc (stop_in xs s)) (length (path_at ps s))) [
      | inr g ↦ absurd (none-some AtLastStop (sym e ∙ home l g))
      | inl on ↦ elim (cases_lt LONGEST_HOLD ticks) [
        | inl g ↦ absurd (none-some LongHold (sym e ∙ long l on g))
        | inr g ↦ (l, on, g)
      ]
    ]
  ]

pub holds_keep_placed : HoldsKeepPlaced
holds_keep_placed ps xs s ticks e placed = let h = taken ps xs s ticks e in placed_hold ps xs s ticks placed h.0 h.1 h.2

pub words_name_movers : MovesExactly → WordsNameMovers
words_name_movers moves ps orders standing xs s =
    elim (cases_lt s (length ps)) [
      | inl lt ↦ word-bit (movers ps orders standing xs) (length ps) s lt
      | inr ge ↦ word_past (movers ps orders standing xs) (length ps) s ge ∙ sym (past_stays moves ps orders standing xs s ge)
    ]
