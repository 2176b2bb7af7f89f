-- What is kept for stops, where one of them is replaced.
use Rattle.std.proofs.Common.{◌≡◌, ◌<◌, List, [], length, get_or, set, sym, ap, ◌∙◌, inl, inr, arith}
use Rattle.std.specs.List.{AllByRecursion}
use Rattle.std.proofs.ByRecursion.{All-get_or, All-set}
use Rattle.std.proofs.lemmas.Bool.{cases_eq}
use Rattle.std.proofs.lemmas.List.{get_or-set_same, get_or-set_other, length-set}
use Rattle.meetings.specs.declared.stays.At.{At}
use Rattle.floor.specs.declared.worklist.Entry.{Entry}
use Rattle.floor.specs.Worklists.{entry_in, with_entry}

abbrev pub no_entry : Entry
no_entry = record { tick = 0; waiting = 0 }

-- a row for each shuttle, and a place for each stop
abbrev pub Wide : List (List Entry) → Type 0
Wide rows = AllByRecursion (λ (row : List Entry). length row ≡ 64) rows

module _ (rows : List (List Entry)) (a : At) (x : Entry) where
  abbrev row : List Entry
  row = get_or rows a.shuttle []

  module _ (many : a.shuttle < length rows) (wide : Wide rows) (short : a.stop < 64) where
    row_wide : length row ≡ 64
    row_wide = All-get_or (λ (r : List Entry). length r ≡ 64) rows a.shuttle [] many wide

    row_here : get_or (with_entry rows a x) a.shuttle [] ≡ set row a.stop x
    row_here = get_or-set_same rows a.shuttle (set row a.stop x) [] many

    pub entry_here : entry_in (with_entry rows a x) a ≡ x
    entry_here = ap (λ (r : List Entry). get_or r a.stop no_entry) row_here ∙ get_or-set_same row a.stop x no_entry (omega (arith, short, row_wide))

    pub entry_other : (b : At) → (b.shuttle ≡ a.shuttle → b.stop ≡ a.stop → ⊥) → entry_in (with_entry rows a x) b ≡ entry_in rows b
    entry_other b ne = elim (cases_eq b.shuttle a.shuttle) [
      | inl e ↦
          ap (λ s. get_or (get_or (with_entry rows a x) s []) b.stop no_entry) e
          ∙ ap (λ (r : List Entry). get_or r b.stop no_entry) row_here
          ∙ get_or-set_other row a.stop b.stop x no_entry (ne e)
          ∙ sym (ap (λ s. get_or (get_or rows s []) b.stop no_entry) e)
      | inr d ↦ ap (λ (r : List Entry). get_or r b.stop no_entry) (get_or-set_other rows a.shuttle b.shuttle (set row a.stop x) [] d)
    ]

    pub wide_still : Wide (with_entry rows a x)
    wide_still = All-set (λ (r : List Entry). length r ≡ 64) rows a.shuttle (set row a.stop x) (length-set row a.stop x ∙ row_wide) wide

  pub many_still : length (with_entry rows a x) ≡ length rows
  many_still = length-set rows a.shuttle (set row a.stop x)
