-- The stays of a plan: each stop with the tick at which it is entered and the tick at which it is left.
use Rattle.std.specs.Prelude.{ℕ, suc, cond, List, map, length, Some, None, Option, nat_lt}
use Rattle.std.specs.List.{range_with_len}
use Rattle.files.specs.declared.plan.Stop.{Stop}
use Rattle.files.specs.Rules.{stop_at, path_at}
use Rattle.meetings.specs.declared.stays.Stay.{Stay}
use Rattle.meetings.specs.Joined.{joined}

-- A stop is left at the tick at which the next one is entered; the last is never left.
abbrev pub leave_at : List Stop → ℕ → Option ℕ
leave_at path i = cond (nat_lt (suc i) (length path)) (Some (stop_at path (suc i)).tick) None

abbrev pub stay_of_stop : ℕ → List Stop → ℕ → Stay
stay_of_stop s path i = record {
  at = record { shuttle = s; stop = i };
  place = (stop_at path i).place;
  enter = (stop_at path i).tick;
  leave = leave_at path i;
}

abbrev pub path_stays : ℕ → List Stop → List Stay
path_stays s path = map (stay_of_stop s path) (range_with_len 0 (length path))

-- all stays, in shuttle and stop order
abbrev pub stays : List (List Stop) → List Stay
stays ps = joined (λ s. path_stays s (path_at ps s)) (length ps)
