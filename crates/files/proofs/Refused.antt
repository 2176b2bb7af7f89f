-- A file is refused exactly at its first fault, and no plan's file is the same so far.
use Rattle.std.proofs.Common.{◌≡◌, ℕ, zero, suc, ◌+◌, ◌*◌, ◌<◌, ◌≤◌, ⊎_elim, List, length, get_or, Some, None, Ok, Err, Result, slice_get, unwrap_or, sym, refl, ap, ◌∙◌, subst, arith}
use Rattle.std.proofs.lemmas.Bool.{cases_order, cases_lt}
use Rattle.std.proofs.lemmas.List.{ext_get_or}
use Rattle.std.proofs.lemmas.Option.{slice_get-get_or, slice_get_past, unwrap_or-slice_get}
use Rattle.files.specs.Bytes.{plan_bytes}
use Rattle.files.specs.Fields.{shuttles_in, table_in, stops_below, end_in, Field, Shuttles, Tables, Offset, Stops, TablePlace, place_of, Has, FieldKeeps, BreaksAt, EndsAt, GoesOnAt, FirstFault, RefusesExactly}
use Rattle.files.specs.Layout.{Layout, word, layout, tables_at}
use Rattle.files.proofs.Exact.{layout_write}
use Rattle.files.proofs.Judged.{Judged, Whole, layout_judged, half_of}
use Rattle.files.proofs.Rows.{Bytes}

module _ (bs : List ℕ) where
  -- no fault comes before a place up to which all is well
  not_before : (a b : ℕ) → FirstFault bs a → FirstFault bs b → a < b → ⊥
  not_before a b x y less =
      ⊎_elim
      (λ (br : BreaksAt bs a).
      let p = half_of bs br.0 in
      ⊎_elim (λ (other : BreaksAt bs b). let q = half_of bs other.0 in br.4 (y.before br.0 br.1 (omega (arith, p.1, q.1, br.2, other.2))))
      (⊎_elim (λ (end : EndsAt bs b). br.4 (y.before br.0 br.1 (omega (arith, br.2, br.3, end.0))))
      (λ (on : GoesOnAt bs b). br.4 (y.before br.0 br.1 (omega (arith, p.1, br.2, on.0)))))
      y.fault)
      (⊎_elim (λ (end : EndsAt bs a). omega (arith, end.0, y.within))
      (λ (on : GoesOnAt bs a).
      ⊎_elim (λ (other : BreaksAt bs b). omega (arith, on.0, other.2, has_ends other.0 other.1))
      (⊎_elim (λ (end : EndsAt bs b). omega (arith, on.1, end.1)) (λ (same : GoesOnAt bs b). omega (arith, on.0, same.0)))
      y.fault))
      x.fault
    where
      has_ends : (f : Field) → Has bs f → place_of bs f + 2 ≤ end_in bs
      has_ends Shuttles has = omega arith
      has_ends Tables has = omega arith
      has_ends (Offset s) has = omega arith
      has_ends (Stops s) has = omega arith
      has_ends (TablePlace k) has = omega arith

  one_fault : (a b : ℕ) → FirstFault bs a → FirstFault bs b → a ≡ b
  one_fault a b x y =
      ⊎_elim (λ e. e) (⊎_elim (λ less. absurd (not_before a b x y less)) (λ more. absurd (not_before b a y x more))) (cases_order a b)

  -- a whole file has no fault
  no_fault : Whole bs → (at : ℕ) → FirstFault bs at → ⊥
  no_fault whole at x =
      ⊎_elim (λ (br : BreaksAt bs at). br.4 (whole.0 br.0 br.1))
      (⊎_elim (λ (end : EndsAt bs at). omega (arith, end.1, whole.1)) (λ (on : GoesOnAt bs at). omega (arith, on.1, whole.1))) x.fault

  fault_found : Bytes bs → (d : Result Layout ℕ) → Judged bs (λ _. Whole bs) d → (at : ℕ) → FirstFault bs at → d ≡ Err at
  fault_found small (Ok l) j at x = absurd (no_fault j at x)
  fault_found small (Err p) j at x = ap Err (one_fault p at (j small) x)

-- a file of the same bytes up to and with a place has the same numbers up to there
module _ (bs qs : List ℕ) (to : ℕ) (same : (k : ℕ) → k < to → slice_get bs k ≡ slice_get qs k) where
  same_byte : (k : ℕ) → k < to → get_or bs k 0 ≡ get_or qs k 0
  same_byte k lt = sym (unwrap_or-slice_get bs k 0) ∙ ap (λ o. unwrap_or o 0) (same k lt) ∙ unwrap_or-slice_get qs k 0

  same_word : (p : ℕ) → p + 2 ≤ to → word bs p ≡ word qs p
  same_word p le = omega (arith, same_byte p (omega arith), same_byte (p + 1) (omega arith))

  same_below : (s : ℕ) → 4 + 4 * s ≤ to → stops_below bs s ≡ stops_below qs s
  same_below zero le = refl
  same_below (suc s) le = omega (arith, same_below s (omega arith), same_word (6 + 4 * s) (omega arith))

  same_table : (k : ℕ) → tables_at (shuttles_in bs) + 2 * k + 2 ≤ to → table_in bs k ≡ table_in qs k
  same_table k le =
      same_word (tables_at (shuttles_in bs) + 2 * k) le ∙ ap (λ n. word qs (tables_at n + 2 * k)) (same_word 0 (omega arith))

  -- so a field there keeps its rule in both
  same_rule : (f : Field) → place_of bs f + 2 ≤ to → (Has bs f → Has qs f) × (FieldKeeps qs f → FieldKeeps bs f)
  same_rule Shuttles le = let n = same_word 0 le in (λ h. h, λ k. (omega arith, omega arith))
  same_rule Tables le = let m = same_word 2 le in (λ h. h, λ k. omega arith)
  same_rule (Offset s) le =
      let n = same_word 0 (omega arith) in
      let m = same_word 2 (omega arith) in
      let below = same_below s (omega arith) in
      let here = same_word (4 + 4 * s) le in
      (λ h. omega arith, λ k. omega arith)
  same_rule (Stops s) le =
      let n = same_word 0 (omega arith) in
      let below = same_below s (omega arith) in
      let here = same_word (6 + 4 * s) le in
      (λ h. omega arith, λ k. (omega arith, omega arith, omega arith))
  same_rule (TablePlace zero) le = let n = same_word 0 (omega arith) in let m = same_word 2 (omega arith) in (λ h. omega arith, λ k. tt)
  same_rule (TablePlace (suc k)) le =
      let n = same_word 0 (omega arith) in
      let m = same_word 2 (omega arith) in
      let before = same_table k (omega arith) in
      let here = same_table (suc k) le in
      (λ h. omega arith, λ e. omega arith)

  same_end : 4 + 4 * shuttles_in bs ≤ to → end_in bs ≡ end_in qs
  same_end le =
      let n = same_word 0 (omega arith) in
      let m = same_word 2 (omega arith) in
      omega (arith, same_below (shuttles_in bs) le, ap (stops_below qs) n)

  -- what one has there the other has too
  same_past : (k : ℕ) → k < to → length bs ≤ k → length qs ≤ k
  same_past k lt le = ⊎_elim (λ (less : k < length qs). let z : None ≡ Some (get_or qs k 0) = sym (slice_get_past bs k le) ∙ same k lt ∙ slice_get-get_or qs k 0 less in cc) (λ ge. ge) (cases_lt k (length qs))

-- a whole file has none of the faults of another that is the same so far
no_agreement :
    (bs qs : List ℕ) (at : ℕ) → FirstFault bs at → Whole qs → ((k : ℕ) → k < at + 2 → slice_get bs k ≡ slice_get qs k) → ⊥
no_agreement bs qs at x whole same =
    ⊎_elim
    (λ (br : BreaksAt bs at).
    let r = same_rule bs qs (at + 2) same br.0 (omega (arith, br.2)) in br.4 (r.1 (whole.0 br.0 (r.0 br.1))))
    (⊎_elim
    (λ (end : EndsAt bs at).
    let past = same_past bs qs (at + 2) same at (omega arith) (omega (arith, end.0)) in
    let long : length bs ≤ length qs = ⊎_elim (λ (less : length qs < length bs). absurd (omega (arith, same_past qs bs (at + 2) (λ k lt. sym (same k lt)) (length qs) (omega (arith, end.0)) (omega arith)))) (λ ge. ge) (cases_lt (length qs) (length bs)) in
    let is : bs ≡ qs = ext_get_or 0 bs qs (omega (arith, end.0)) (λ i lt. same_byte bs qs (at + 2) same i (omega (arith, end.0))) in
    omega (arith, end.1, whole.1, ap end_in is, ap (λ (l : List ℕ). length l) is))
    (λ (on : GoesOnAt bs at).
    let ends = same_end bs qs (at + 2) same (omega (arith, on.0)) in
    ⊎_elim (λ (less : at < length qs). omega (arith, whole.1, on.0))
    (λ (ge : length qs ≤ at). omega (arith, same_past qs bs (at + 2) (λ k lt. sym (same k lt)) at (omega arith) ge, on.0, on.1)) (cases_lt at (length qs))))
    x.fault

pub refuses_exactly : (bs : List ℕ) → Bytes bs → RefusesExactly bs
refuses_exactly bs small at = (
  λ refused.
      let first : FirstFault bs at = subst (Judged bs (λ (l : Layout). Whole bs)) refused (layout_judged bs) small in (
        first,
        λ l limits same.
            no_agreement bs (plan_bytes l) at first (subst (Judged (plan_bytes l) (λ (m : Layout). Whole (plan_bytes l))) (layout_write (plan_bytes l) l refl limits) (layout_judged (plan_bytes l))) same,
      ),
  fault_found bs small (layout bs) (layout_judged bs) at,
)
