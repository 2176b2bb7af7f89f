-- What an opened plan shows, and what it keeps.
use Rattle.std.specs.Prelude.{◌≡◌, ℕ, ◌≤◌, List, length}
use Rattle.files.specs.declared.plan.Stop.{Stop}
use Rattle.files.specs.Bytes.{Limits}
use Rattle.files.specs.Layout.{Layout}
use Rattle.files.specs.Rules.{PathsKeep}
use Rattle.meetings.specs.declared.meet.Meeting.{Meeting}
use Rattle.meetings.specs.declared.meet.TheConstants.{MOST_MEETINGS}
use Rattle.meetings.specs.Collisions.{NoCollision}
use Rattle.meetings.specs.Meetings.{meetings}

-- the path of each shuttle, the places that are tables, and the meetings in meeting order
pub record OpenedPlan : Type 0 where
  pub paths : List (List Stop)
  pub tables : List ℕ
  pub meetings : List Meeting

-- what of it stands in the plan file
abbrev pub plan_layout : OpenedPlan → Layout
plan_layout p = record { paths = p.paths; tables = p.tables }

-- the limits, the path rules, the most meetings, and no two paths that collide
pub record IsKept (p : OpenedPlan) : Type 0 where
  pub limits : Limits (plan_layout p)
  pub rules : PathsKeep p.paths
  pub few : length (meetings p.paths) ≤ MOST_MEETINGS
  pub clear : NoCollision p.paths
  pub listed : p.meetings ≡ meetings p.paths
