-- The worked plans in one table.
use Rattle.std.specs.Prelude.{◌≡◌, [], ◌∷◌, Some, None, Ok}
use Rattle.meetings.specs.declared.meet.First.TheVariants.{Lower, Other}
use Rattle.plans.specs.Kept.{IsKept}
use Rattle.plans.specs.Refusals.{gives}
use Rattle.dispatch.specs.Tally.{Tick, Adopt, answer}
use Rattle.dispatch.specs.declared.answers.Answer.TheVariants.{Moved, Adopted}
use Rattle.worked.specs.Costs.{by_sum, by_last}
use Rattle.worked.specs.Drafts.{Rule, Drafts, Refuses, draft_of}
use Rattle.worked.specs.Plans.{p_plan, p_plan_with_table, q_plan}
use Rattle.worked.specs.Runs.{p, p_held, p_drafted, p_adopted, p_moved, p_at_table, q_held, q_adopted}
use Rattle.worked.specs.Runs.{in_force, arrivals, cost_in_force, order_file, opens, ticks_under}

-- Each draft is by a list with so much room, by a budget, and from a run; then come the places at
-- which its nodes are put. A heap puts a node behind those that are not greater, and a stack puts
-- first.
pub record WorkedPlans (heap stack : Rule) : Type 0 where
  -- The plans keep all rules, so they can be opened.
  pub p_kept : IsKept p_plan
  pub p_table_kept : IsKept p_plan_with_table
  pub q_kept : IsKept q_plan
  -- 1. P, fresh: the shuttles arrive at 2 and 4, 6 in all. A draft takes 3 nodes, and leaves the
  -- orders as they are in force.
  pub fresh_arrivals : arrivals p ≡ 2 ∷ 4 ∷ []
  pub fresh_sum : cost_in_force by_sum p ≡ Some 6
  pub fresh_by_heap : Drafts heap by_sum 8 100 p (0 ∷ 0 ∷ 1 ∷ []) (draft_of 6 3 (in_force p))
  pub fresh_by_stack : Drafts stack by_sum 8 100 p (0 ∷ 0 ∷ 0 ∷ []) (draft_of 6 3 (in_force p))
  -- 2. Shuttle 0 is held for 5 ticks: they arrive at 7 and 9, 16 in all, and the last at 9.
  pub held_arrivals : arrivals p_held ≡ 7 ∷ 9 ∷ []
  pub held_sum : cost_in_force by_sum p_held ≡ Some 16
  pub held_last : cost_in_force by_last p_held ≡ Some 9
  -- 3. Then a draft costs 9 and turns the meeting. It takes 3 nodes, by heap or stack. Once it is
  -- adopted they arrive at 7 and 2.
  pub held_by_heap :
      Drafts heap by_sum 8 100 p_held (0 ∷ 0 ∷ 1 ∷ []) (draft_of 9 3 (Other ∷ []))
  pub held_by_stack :
      Drafts stack by_sum 8 100 p_held (0 ∷ 0 ∷ 0 ∷ []) (draft_of 9 3 (Other ∷ []))
  pub held_adopts : answer (Adopt 1 1) p_drafted ≡ Ok (Adopted 9)
  pub held_adopted_arrivals : arrivals p_adopted ≡ 7 ∷ 2 ∷ []
  -- 4. With a budget of 2 the draft is refused (13), which gives 2 nodes taken.
  pub spent_by_heap :
      Refuses heap by_sum 8 2 p_held (0 ∷ 0 ∷ 1 ∷ []) (gives 13 (2 ∷ []))
  pub spent_by_stack :
      Refuses stack by_sum 8 2 p_held (0 ∷ 0 ∷ 0 ∷ []) (gives 13 (2 ∷ []))
  -- 5. With room for 1 node it is refused (12), which gives 1 node taken.
  pub full_by_heap : Refuses heap by_sum 1 100 p_held (0 ∷ 0 ∷ []) (gives 12 (1 ∷ []))
  pub full_by_stack : Refuses stack by_sum 1 100 p_held (0 ∷ 0 ∷ []) (gives 12 (1 ∷ []))
  -- 6. At one undisturbed tick shuttle 0 alone moves, to place 5, and is then held for 5 ticks: the
  -- meeting is not open, the orders in force cost 14, and a draft takes 1 node and leaves them.
  pub tick_moves : answer (Tick 0) p ≡ Ok (Moved 1)
  pub moved_opens : opens p_moved ≡ []
  pub moved_sum : cost_in_force by_sum p_moved ≡ Some 14
  pub moved_by_heap : Drafts heap by_sum 8 100 p_moved (0 ∷ []) (draft_of 14 1 (in_force p_moved))
  -- 7. Place 5 is a table, and shuttle 0 is held for 5 ticks: the meeting is not open, and a draft
  -- costs 16, takes 1 node and leaves the orders in force.
  pub table_opens : opens p_at_table ≡ []
  pub table_by_heap :
      Drafts heap by_sum 8 100 p_at_table (0 ∷ []) (draft_of 16 1 (in_force p_at_table))
  -- 8. The order file of P, fresh: 0002 000A 0000 000A 0001 0001 0000 0002.
  pub file :
      order_file p
      ≡ 0 ∷ 2 ∷ 0 ∷ 10 ∷ 0 ∷ 0 ∷ 0 ∷ 10 ∷ 0 ∷ 1 ∷ 0 ∷ 1 ∷ 0 ∷ 0 ∷ 0 ∷ 2 ∷ []
  -- 9. Q, and shuttle 0 is held for 5 ticks: they arrive at 8 and 11, 19 in all. A draft costs 11
  -- and turns both meetings. It takes 7 nodes by heap, and 5 by stack. Once it is adopted they
  -- arrive at 8 and 3. Either meeting turned alone closes a ring.
  pub q_arrivals : arrivals q_held ≡ 8 ∷ 11 ∷ []
  pub q_sum : cost_in_force by_sum q_held ≡ Some 19
  pub q_by_heap :
      Drafts heap by_sum 8 100 q_held (0 ∷ 0 ∷ 1 ∷ 1 ∷ 2 ∷ 0 ∷ 1 ∷ [])
      (draft_of 11 7 (Other ∷ Other ∷ []))
  pub q_by_stack :
      Drafts stack by_sum 8 100 q_held (0 ∷ 0 ∷ 0 ∷ 0 ∷ 0 ∷ [])
      (draft_of 11 5 (Other ∷ Other ∷ []))
  pub q_adopted_arrivals : arrivals q_adopted ≡ 8 ∷ 3 ∷ []
  pub first_alone : ticks_under q_held (Other ∷ Lower ∷ []) ≡ None
  pub second_alone : ticks_under q_held (Lower ∷ Other ∷ []) ≡ None
