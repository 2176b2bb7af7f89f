use Rattle.std.proofs.Common.{◌≡◌, ℕ, ◌+◌, ◌++◌, false, List, length, drop, vec_items, ap, ◌∙◌, inl, inr, arith, subst}
use Rattle.std.specs.List.{flat_map}
use Rattle.std.proofs.lemmas.Bool.{cases_lt}
use Rattle.std.proofs.lemmas.List.{drop_all}
use Rattle.meetings.specs.declared.stays.Stay.{Stay}
use Rattle.meetings.specs.Meetings.{RowClear, RowsClear, clashes, meet_with, meetings_of, stay_in}
use Rattle.meetings.proofs.meet.find_meetings.Goals as goal

-- one row more
rows_more : (xs : List Stay) (k n : ℕ) → RowsClear xs k → RowClear xs k n → n ≡ length xs → RowsClear xs (k + 1)
rows_more xs k n rows row is i l lt after within = elim (cases_lt i k) [
  | inl before ↦ rows i l before after within
  | inr from ↦
      let same : k ≡ i = omega (arith, lt, from) in
      subst (λ j. clashes (stay_in xs j) (stay_in xs l) ≡ false) same (row l (omega (arith, after, same)) (omega (arith, within, is)))
]

pub loop-k-preserved : goal.loop-k-preserved
loop-k-preserved c =
    let xs = c.args.stays.now in
    let k = c.loop-k.k in
    let n = k + 1 + c.loop-b.b-index in
    let i = c.loop-b.invariant in
    let end : n ≡ length xs = omega (arith, c.loop-b-test.false, c.loop-k-test.true) in (
      i.0 ∙ ap (λ l. vec_items c.loop-b.all ++ (flat_map (meet_with (stay_in xs k)) l ++ meetings_of (drop (k + 1) xs))) (drop_all n xs (omega (arith, end))),
      i.1,
      λ clear. rows_more xs k n (i.2 clear).0 (i.2 clear).1 end,
    )
