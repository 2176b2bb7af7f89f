-- The worked plans compute.
use Rattle.std.specs.Prelude.{List, [], ◌∷◌}
use Rattle.std.proofs.Common.{refl}
use Rattle.files.specs.declared.plan.Stop.{Stop}
use Rattle.floor.specs.Open.{is_open_at}
use Rattle.heap.specs.Laws.{RowsAreUnique}
use Rattle.lists.specs.Lists.{HeapMoves, StackMoves}
use Rattle.lists.specs.declared.node.Node.{Node}
use Rattle.meetings.specs.Laws.{ClearLaw}
use Rattle.meetings.specs.declared.meet.First.TheVariants.{Other}
use Rattle.plans.specs.Refusals.{gives}
use Rattle.redraw.specs.Costs.{cost_of}
use Rattle.redraw.specs.Nodes.{finding}
use Rattle.redraw.specs.Redraws.{drawn, redrawn}
use Rattle.traffic.specs.Ticks.{entry_ticks}
use Rattle.worked.proofs.Drafting.{drafts, refuses}
use Rattle.worked.proofs.Following.{heap_tested, stack_tested}
use Rattle.worked.proofs.Kept.{p_kept, p_table_kept, q_kept}
use Rattle.worked.specs.Costs.{by_sum}
use Rattle.worked.specs.Drafts.{draft_of}
use Rattle.worked.specs.Runs.{p, p_held, p_moved, p_at_table, q_held, in_force}
use Rattle.worked.specs.Table.{WorkedPlans}

pub worked_plans :
    RowsAreUnique Node → ((ps : List (List Stop)) → ClearLaw ps)
    → WorkedPlans HeapMoves StackMoves
unfolding entry_ticks cost_of finding drawn redrawn is_open_at
worked_plans unique clear = record {
  p_kept = p_kept clear;
  p_table_kept = p_table_kept clear;
  q_kept = q_kept clear;
  fresh_arrivals = refl;
  fresh_sum = refl;
  fresh_by_heap =
      drafts (heap_tested unique) by_sum 8 100 p (0 ∷ 0 ∷ 1 ∷ [])
      (record { each = refl; end = refl }) (draft_of 6 3 (in_force p)) refl refl;
  fresh_by_stack =
      drafts stack_tested by_sum 8 100 p (0 ∷ 0 ∷ 0 ∷ [])
      (record { each = refl; end = refl }) (draft_of 6 3 (in_force p)) refl refl;
  held_arrivals = refl;
  held_sum = refl;
  held_last = refl;
  held_by_heap =
      drafts (heap_tested unique) by_sum 8 100 p_held (0 ∷ 0 ∷ 1 ∷ [])
      (record { each = refl; end = refl }) (draft_of 9 3 (Other ∷ [])) refl refl;
  held_by_stack =
      drafts stack_tested by_sum 8 100 p_held (0 ∷ 0 ∷ 0 ∷ [])
      (record { each = refl; end = refl }) (draft_of 9 3 (Other ∷ [])) refl refl;
  held_adopts = refl;
  held_adopted_arrivals = refl;
  spent_by_heap =
      refuses (heap_tested unique) by_sum 8 2 p_held (0 ∷ 0 ∷ 1 ∷ [])
      (record { each = refl; end = refl }) (gives 13 (2 ∷ [])) refl refl;
  spent_by_stack =
      refuses stack_tested by_sum 8 2 p_held (0 ∷ 0 ∷ 0 ∷ [])
      (record { each = refl; end = refl }) (gives 13 (2 ∷ [])) refl refl;
  full_by_heap =
      refuses (heap_tested unique) by_sum 1 100 p_held (0 ∷ 0 ∷ [])
      (record { each = refl; end = refl }) (gives 12 (1 ∷ [])) refl refl;
  full_by_stack =
      refuses stack_tested by_sum 1 100 p_held (0 ∷ 0 ∷ [])
      (record { each = refl; end = refl }) (gives 12 (1 ∷ [])) refl refl;
  tick_moves = refl;
  moved_opens = refl;
  moved_sum = refl;
  moved_by_heap =
      drafts (heap_tested unique) by_sum 8 100 p_moved (0 ∷ [])
      (record { each = refl; end = refl }) (draft_of 14 1 (in_force p_moved)) refl refl;
  table_opens = refl;
  table_by_heap =
      drafts (heap_tested unique) by_sum 8 100 p_at_table (0 ∷ [])
      (record { each = refl; end = refl }) (draft_of 16 1 (in_force p_at_table)) refl refl;
  file = refl;
  q_arrivals = refl;
  q_sum = refl;
  q_by_heap =
      drafts (heap_tested unique) by_sum 8 100 q_held (0 ∷ 0 ∷ 1 ∷ 1 ∷ 2 ∷ 0 ∷ 1 ∷ [])
      (record { each = refl; end = refl }) (draft_of 11 7 (Other ∷ Other ∷ [])) refl refl;
  q_by_stack =
      drafts stack_tested by_sum 8 100 q_held (0 ∷ 0 ∷ 0 ∷ 0 ∷ 0 ∷ [])
      (record { each = refl; end = refl }) (draft_of 11 5 (Other ∷ Other ∷ [])) refl refl;
  q_adopted_arrivals = refl;
  first_alone = refl;
  second_alone = refl;
}
