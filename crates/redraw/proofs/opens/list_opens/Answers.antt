use Rattle.std.proofs.Common.{◌≡◌, ◌++◌, ◌∷◌, [], List, ℕ, length, sym, ap, ◌∙◌, arith}
use Rattle.std.proofs.lemmas.Bool.{eqb-false, eqb-true}
use Rattle.redraw.proofs.Opening.{below_closed, below_open}
use Rattle.redraw.proofs.opens.list_opens.Goals as goal
use Rattle.redraw.proofs.opens.list_opens.Goals.{then-is_open+else-is_full, else-is_open}

pub returns-then-is_full-clause-few : goal.returns-then-is_full-clause-few
returns-then-is_full-clause-few c =
    let o = c.runs_stand.ensures.opens c.args.driven.now in
    let is_open = (o.test c.loop-meeting.meeting).0 (sym c.is_open.ensures.test ∙ c.if-is_open.true) in
    let more = (o.listed c.loop-meeting.meeting is_open).0 in
    let full : length c.loop-meeting.opens.items ≡ 64 = eqb-true _ _ (sym c.is_full.ensures.value ∙ c.if-is_full.true) in
    (λ e. cc, λ few. absurd (omega (arith, few, more, full, ap (λ (l : List ℕ). length l) c.loop-meeting.invariant.listed)))

pub loop-meeting-preserved : goal.loop-meeting-preserved
loop-meeting-preserved c =
    let st = c.args.driven.now in
    let j = c.loop-meeting.meeting in
    elim c.if-is_open.branch [
      | then-is_open+else-is_full w ↦ record {
        listed = ap (λ (v : _). v.items) w.opens-is ∙ w.push.ensures.items ∙ ap (λ l. l ++ j ∷ []) c.loop-meeting.invariant.listed ∙ sym (below_open st j (sym c.is_open.ensures.test ∙ w.if-is_open.true));
        few = (let not_full : length c.loop-meeting.opens.items ≡ 64 → ⊥ = eqb-false _ _ (sym w.is_full.ensures.value ∙ w.if-is_full.false) in omega (arith, not_full, c.loop-meeting.invariant.few, w.push.ensures.len, ap (λ (v : _). length v.items) w.opens-is));
      }
      | else-is_open w ↦ record {
        listed = ap (λ (v : _). v.items) w.opens-is ∙ c.loop-meeting.invariant.listed ∙ sym (below_closed st j (sym c.is_open.ensures.test ∙ w.if-is_open.false));
        few = omega (arith, c.loop-meeting.invariant.few, ap (λ (v : _). length v.items) w.opens-is);
      }
    ]
