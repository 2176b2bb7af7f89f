-- Stops whose tick is set to 0, or whose notes are taken away, one after another.
use Rattle.std.proofs.Common.{◌≡◌, ℕ, ◌+◌, ◌<◌, ◌≤◌, ◌⊎◌, List, [], length, get_or, map, sym, ap, ◌∙◌, inl, inr, arith}
use Rattle.std.proofs.ByRecursion.{All-get_or}
use Rattle.std.proofs.lemmas.Bool.{cases_eq, cases_lt}
use Rattle.std.proofs.lemmas.List.{get_or-map, get_or_past, length-map}
use Rattle.meetings.specs.declared.stays.At.{At}
use Rattle.traffic.specs.Scene.{at}
use Rattle.floor.specs.declared.worklist.Entry.{Entry}
use Rattle.floor.specs.declared.worklist.Worklist.{Worklist}
use Rattle.floor.specs.Times.{tick_in}
use Rattle.floor.specs.Worklists.{Shaped, entry_of, rows_of, with_entry}
use Rattle.floor.proofs.Entries.{entry_here, entry_other, many_still, no_entry, wide_still}

-- one entry of a shuttle is replaced
module _ (w : Worklist) (h : Shaped w) (s i : ℕ) (low : s < 32) (short : i < 64) (x : Entry) where
  abbrev pub with_one : Worklist
  with_one = record { entries = with_entry w.entries (at s i) x; progress = w.progress; ready = w.ready }

  row : s < length w.entries
  row = omega (arith, low, h.rows)

  pub one_shaped : Shaped with_one
  one_shaped = record {
    rows = many_still w.entries (at s i) x ∙ h.rows;
    wide = wide_still w.entries (at s i) x row h.wide short;
    progress = h.progress;
  }

  pub one_here : entry_of with_one (at s i) ≡ x
  one_here = entry_here w.entries (at s i) x row h.wide short

  pub one_other : (b : At) → (b.shuttle ≡ s → b.stop ≡ i → ⊥) → entry_of with_one b ≡ entry_of w b
  one_other b ne = entry_other w.entries (at s i) x row h.wide short b ne

  -- so one more of the shuttle's first ticks is 0
  pub one_more : x.tick ≡ 0 → ((j : ℕ) → j < i → (entry_of w (at s j)).tick ≡ 0) → (j : ℕ) → j < i + 1 → (entry_of with_one (at s j)).tick ≡ 0
  one_more zero before j lt = elim (cases_eq j i) [
    | inl e ↦ ap (λ k. (entry_of with_one (at s k)).tick) e ∙ ap (λ (y : Entry). y.tick) one_here ∙ zero
    | inr ne ↦ ap (λ (y : Entry). y.tick) (one_other (at s j) (λ _. ne)) ∙ before j (omega (arith, lt, ne))
  ]

-- the ticks alone
pub rows-tick : (w : Worklist) (a : At) → tick_in (rows_of w) a ≡ (entry_of w a).tick
rows-tick w a = at_row (cases_lt a.shuttle (length w.entries))
  where
    in_row : (r : List Entry) → get_or (map (λ (x : Entry). x.tick) r) a.stop 0 ≡ (get_or r a.stop no_entry).tick
    in_row r = elim (cases_lt a.stop (length r)) [
      | inl l ↦ get_or-map (λ (x : Entry). x.tick) r a.stop no_entry 0 l
      | inr g ↦ get_or_past (map (λ (x : Entry). x.tick) r) a.stop 0 (omega (arith, g, length-map r (λ (x : Entry). x.tick))) ∙ sym (ap (λ (x : Entry). x.tick) (get_or_past r a.stop no_entry g))
    ]

    at_row : (a.shuttle < length w.entries) ⊎ (length w.entries ≤ a.shuttle) → tick_in (rows_of w) a ≡ (entry_of w a).tick
    at_row (inl l) = ap (λ (row : List ℕ). get_or row a.stop 0) (get_or-map (λ (r : List Entry). map (λ (x : Entry). x.tick) r) w.entries a.shuttle [] [] l) ∙ in_row (get_or w.entries a.shuttle [])
    at_row (inr g) =
        ap (λ (row : List ℕ). get_or row a.stop 0) (get_or_past (rows_of w) a.shuttle [] (omega (arith, g, length-map w.entries (λ (r : List Entry). map (λ (x : Entry). x.tick) r))))
        ∙ get_or_past [] a.stop 0 (omega arith)
        ∙ sym (ap (λ (x : Entry). x.tick) (ap (λ (row : List Entry). get_or row a.stop no_entry) (get_or_past w.entries a.shuttle [] g) ∙ get_or_past [] a.stop no_entry (omega arith)))

-- where there is no room for a stop there is 0
pub no_room : (w : Worklist) → Shaped w → (a : At) → ((a.shuttle < 32) × (64 ≤ a.stop)) ⊎ (32 ≤ a.shuttle) → tick_in (rows_of w) a ≡ 0
no_room w h a (inr past) =
    rows-tick w a ∙ ap (λ (x : Entry). x.tick) (ap (λ (r : List Entry). get_or r a.stop no_entry) (get_or_past w.entries a.shuttle [] (omega (arith, past, h.rows))) ∙ get_or_past [] a.stop no_entry (omega arith))
no_room w h a (inl (low, past)) =
    let wide = All-get_or (λ (r : List Entry). length r ≡ 64) w.entries a.shuttle [] (omega (arith, low, h.rows)) h.wide in
    rows-tick w a ∙ ap (λ (x : Entry). x.tick) (get_or_past (get_or w.entries a.shuttle []) a.stop no_entry (omega (arith, past, wide)))
