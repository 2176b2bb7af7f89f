use Rattle.std.proofs.Common.{vec_items, sym, ap, ◌∙◌}
use Rattle.orders.specs.Plans.{plan_orders}
use Rattle.orders.proofs.Back.{guesses_right}
use Rattle.orders.proofs.read.read_orders.Goals as goal

pub returns-then-is_file : goal.returns-then-is_file
returns-then-is_file c =
    let plan = c.args.plan.now in
    let g = c.in_ok-firsts.ensures.value in (
      (g.0, c.if-is_file.ensures ∙ ap (plan_orders plan) c.as_slice.ensures.value),
      guesses_right c.meetings_stand.ensures.listed c.joins_stand.ensures plan c.in_ok-firsts.ensures.kept c.args.bytes.now (vec_items c.in_ok-firsts.firsts) g,
    )

pub returns-else-is_file : goal.returns-else-is_file
returns-else-is_file c =
    let plan = c.args.plan.now in
    λ fs f. c.if-is_file.ensures (f.1 ∙ ap (plan_orders plan) (sym (c.as_slice.ensures.value ∙ guesses_right c.meetings_stand.ensures.listed c.joins_stand.ensures plan c.in_ok-firsts.ensures.kept c.args.bytes.now (vec_items c.in_ok-firsts.firsts) c.in_ok-firsts.ensures.value fs f)))
