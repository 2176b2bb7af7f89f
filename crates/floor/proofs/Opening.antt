-- The test of an open meeting decides it.
use Rattle.std.proofs.Common.{◌≡◌, ℕ, suc, ◌<◌, ◌≤◌, ◌↔◌, IsTrue, Bool, true, false, not, ◌&&◌, ◌||◌, eqb, List, [], ◌∷◌, length, sym, refl, ◌∙◌, inl, inr, arith}
use Rattle.std.specs.List.{ContainsAt, list_any}
use Rattle.std.proofs.lemmas.Bool.{and_parts, and_from, not-true, not_from_false, ltb-true, lt-ltb, eqb-true, eq-eqb, cond-true, cond-false, false≢true, cases_lt, le-ltb}
use Rattle.std.proofs.lemmas.List.Folds.{list_any_at}
use Rattle.files.specs.declared.plan.Stop.{Stop}
use Rattle.files.specs.Rules.{path_at, stop_at}
use Rattle.meetings.specs.declared.meet.Meeting.{Meeting}
use Rattle.meetings.specs.declared.stays.At.{At}
use Rattle.traffic.specs.Index.{meeting_at}
use Rattle.floor.specs.declared.table.Shuttle.{Shuttle}
use Rattle.floor.specs.Open.{Ahead, Open, OpenAt, is_ahead, is_table, is_meeting_open, is_open_at}

first_or_later : (place t : ℕ) (tables : List ℕ) → (list_any (λ t. eqb t place) tables ≡ true → ContainsAt tables place) → (b : Bool) → eqb t place ≡ b → (b || list_any (λ t. eqb t place) tables) ≡ true → ContainsAt (t ∷ tables) place
first_or_later place t tables later true q e = (0, omega arith, λ d. eqb-true t place q)
first_or_later place t tables later false q e = let r = later e in (suc r.0, omega (arith, r.1), λ d. r.2 d)

any_contains : (place : ℕ) (tables : List ℕ) → list_any (λ t. eqb t place) tables ≡ true → ContainsAt tables place
any_contains place [] e = absurd (false≢true e)
any_contains place (t ∷ tables) e = first_or_later place t tables (any_contains place tables) (eqb t place) refl e

module _ (ps : List (List Stop)) (tables : List ℕ) (xs : List Shuttle) where
  ahead_of : (a : At) → is_ahead ps xs a ≡ true → Ahead ps xs a
  ahead_of a e = let p = and_parts _ _ e in record { unentered = ltb-true _ _ p.0; onward = ltb-true _ _ p.1 }

  of_ahead : (a : At) → Ahead ps xs a → is_ahead ps xs a ≡ true
  of_ahead a h = and_from _ _ (lt-ltb _ _ h.unentered) (lt-ltb _ _ h.onward)

  abbrev place : Meeting → ℕ
  place m = (stop_at (path_at ps m.lower.shuttle) m.lower.stop).place

  plain_of : (m : Meeting) → is_table ps tables m.lower ≡ false → ContainsAt tables (place m) → ⊥
  plain_of m e (k, lt, is) = absurd (false≢true (sym e ∙ list_any_at (λ t. eqb t (place m)) tables k 0 lt (eq-eqb _ _ (is 0))))

  of_plain : (m : Meeting) → (ContainsAt tables (place m) → ⊥) → is_table ps tables m.lower ≡ false
  of_plain m plain = go (is_table ps tables m.lower) refl
    where
      go : (b : Bool) → is_table ps tables m.lower ≡ b → b ≡ false
      go true e = absurd (plain (any_contains (place m) tables e))
      go false e = refl

  open_of : (m : Meeting) → is_meeting_open ps tables xs m ≡ true → Open ps tables xs m
  open_of m e =
      let p = and_parts (is_ahead ps xs m.lower && is_ahead ps xs m.other) (not (is_table ps tables m.lower)) e in
      let q = and_parts (is_ahead ps xs m.lower) (is_ahead ps xs m.other) p.0 in
      record { lower = ahead_of m.lower q.0; other = ahead_of m.other q.1; plain = plain_of m (not-true (is_table ps tables m.lower) p.1) }

  of_open : (m : Meeting) → Open ps tables xs m → is_meeting_open ps tables xs m ≡ true
  of_open m h = and_from _ _ (and_from _ _ (of_ahead m.lower h.lower) (of_ahead m.other h.other)) (not_from_false _ (of_plain m h.plain))

  module _ (ms : List Meeting) (j : ℕ) where
    -- by its number
    pub open_there : j < length ms → is_open_at ps tables xs ms j ≡ is_meeting_open ps tables xs (meeting_at ms j)
    unfolding is_open_at
    open_there lt = cond-true _ _ _ (lt-ltb j (length ms) lt)

    pub open_past : length ms ≤ j → is_open_at ps tables xs ms j ≡ false
    unfolding is_open_at
    open_past le = cond-false _ _ _ (le-ltb j (length ms) le)

    passes_open : is_open_at ps tables xs ms j ≡ true → OpenAt ps tables xs ms j
    passes_open e = elim (cases_lt j (length ms)) [
      | inl lt ↦ (lt, open_of (meeting_at ms j) (sym (open_there lt) ∙ e))
      | inr le ↦ absurd (false≢true (sym (open_past le) ∙ e))
    ]

    open_passes : OpenAt ps tables xs ms j → is_open_at ps tables xs ms j ≡ true
    open_passes (lt, h) = open_there lt ∙ of_open (meeting_at ms j) h

    pub open_decides : (b : Bool) → b ≡ is_open_at ps tables xs ms j → IsTrue b ↔ OpenAt ps tables xs ms j
    open_decides b e = ((λ t. passes_open (sym e ∙ t)), (λ o. e ∙ open_passes o))
