use Rattle.std.proofs.Common.{ℕ, Option, List, [], ◌∷◌, ◌++◌, vec_items, sym, ap, ◌∙◌, append_assoc, zero-add}
use Rattle.std.proofs.lemmas.List.FromFn.{map-range_with_len_more}
use Rattle.files.specs.declared.plan.Stop.{Stop}
use Rattle.files.specs.Rules.{stop_at}
use Rattle.meetings.specs.declared.stays.Stay.{Stay}
use Rattle.meetings.specs.Stays.{stay_of_stop}
use Rattle.meetings.proofs.stays.add_stays.Goals as goal

-- the stay at a stop that is left at some tick
abbrev stay_leaving : ℕ → List Stop → ℕ → Option ℕ → Stay
stay_leaving s path i tick = record { at = record { shuttle = s; stop = i }; place = (stop_at path i).place; enter = (stop_at path i).tick; leave = tick }

pub loop-stop-preserved : goal.loop-stop-preserved
loop-stop-preserved c =
    let i = c.loop-stop.stop in
    let more = map-range_with_len_more (stay_of_stop c.args.shuttle c.args.stops.now) 0 i i (zero-add i) in
    let leave = c.leave_tick.ensures in
    c.in_ok-push.ensures.items
    ∙ (λ j. c.loop-stop.invariant j ++ stay_leaving c.args.shuttle c.args.stops.now i (leave j) ∷ [])
    ∙ append_assoc (vec_items c.args.all.now) _ _
    ∙ ap (λ l. vec_items c.args.all.now ++ l) (sym more)
