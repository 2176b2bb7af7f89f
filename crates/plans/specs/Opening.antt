-- What opening a plan answers.
use Rattle.std.specs.Prelude.{◌≡◌, ℕ, ◌<◌, ◌≤◌, List, [], ◌∷◌, length, None, Ok, Err, Option, Result}
use Rattle.std.specs.List.{ContainsAt}
use Rattle.files.specs.declared.layout.FileFault.TheVariants.{Torn}
use Rattle.files.specs.declared.layout.FileFault.TheVariants as file
use Rattle.files.specs.Bytes.{plan_bytes, Limits}
use Rattle.files.specs.declared.plan.Stop.{Stop}
use Rattle.files.specs.Layout.{Layout, layout}
use Rattle.files.specs.Rules.{path_at, Keeps, PathKeeps, PathsKeep, FirstOffence}
use Rattle.meetings.specs.declared.clash.Clash.{Clash}
use Rattle.meetings.specs.declared.meet.Meeting.{Meeting}
use Rattle.meetings.specs.declared.meet.MeetingFault.TheVariants as meeting
use Rattle.meetings.specs.declared.meet.TheConstants.{MOST_MEETINGS}
use Rattle.meetings.specs.Collisions.{NoCollision}
use Rattle.meetings.specs.Laws.{Meets, OneFirst, FirstCollision}
use Rattle.meetings.specs.Meetings.{meetings, FirstClash}
use Rattle.meetings.specs.Stays.{stays}
use Rattle.plans.specs.declared.plan.Plan.{Plan}
use Rattle.plans.specs.declared.plan.opening.PlanFault.{PlanFault}
use Rattle.plans.specs.declared.plan.opening.PlanFault.TheVariants.{File, Path, Meetings}
use Rattle.plans.specs.Kept.{plan_layout, IsKept}
use Rattle.plans.specs.Refusals.{NumberAndValues, clash_values, plan_refusal, Refused}

-- a file whose layout is good, and whose paths keep the rules
pub record Ruled (bs : List ℕ) : Type 0 where
  pub plan : Layout
  pub read : layout bs ≡ Ok plan
  pub rules : PathsKeep plan.paths

-- Checks run in this order: layout, path rules, number of meetings, collisions. Want of memory says nothing of the file.
abbrev pub Opens : Result Plan PlanFault → List ℕ → Type 0
Opens (Ok p) bs = (layout bs ≡ Ok (plan_layout p)) × IsKept p
Opens (Err (File (Torn place))) bs = layout bs ≡ Err place
Opens (Err (File file.Memory)) bs = Unit {0}
Opens (Err (Path f)) bs = (l : Layout) × (layout bs ≡ Ok l) × FirstOffence l.paths f
Opens (Err (Meetings meeting.TooMany)) bs = (q : Ruled bs) × (MOST_MEETINGS < length (meetings q.plan.paths))
Opens (Err (Meetings (meeting.Collision c))) bs = (q : Ruled bs) × (length (meetings q.plan.paths) ≤ MOST_MEETINGS) × FirstClash (stays q.plan.paths) c
Opens (Err (Meetings meeting.Memory)) bs = Unit {0}

-- the file of a plan that keeps all rules
pub record Takable (bs : List ℕ) (l : Layout) : Type 0 where
  pub bytes : bs ≡ plan_bytes l
  pub limits : Limits l
  pub rules : PathsKeep l.paths
  pub few : length (meetings l.paths) ≤ MOST_MEETINGS
  pub clear : NoCollision l.paths

-- the answer is that plan, unless memory was wanting
abbrev pub Takes : Result Plan PlanFault → Layout → Type 0
Takes (Ok p) l = plan_layout p ≡ l
Takes (Err e) l = plan_refusal e ≡ None

-- A plan is taken exactly when the bytes are its file, the limits and the rules are kept, and no two paths collide.
abbrev pub OpensExactly : Result Plan PlanFault → List ℕ → Type 0
OpensExactly r bs = ((p : Plan) → r ≡ Ok p → Takable bs (plan_layout p)) × ((l : Layout) → Takable bs l → Takes r l)

-- At every meeting of a plan that is taken exactly one shuttle leaves strictly before the other enters, and the stop that the other waits for exists.
abbrev pub FirstsStand : Result Plan PlanFault → Type 0
FirstsStand (Ok p) =
    (m : Meeting) → ContainsAt p.meetings m → Meets p.paths m × OneFirst p.paths m m.first
FirstsStand (Err e) = Unit {0}

-- The two stops that refuse a plan are those of its first collision.
abbrev pub GivesFirstCollision : Result Plan PlanFault → List ℕ → Type 0
GivesFirstCollision r bs =
    (c : Clash) → r ≡ Err (Meetings (meeting.Collision c)) → (q : Ruled bs) × FirstCollision q.plan.paths c

-- stop i of shuttle s is the first, in shuttle and stop order, that breaks a rule
pub record FirstWrongStop (paths : List (List Stop)) (s i : ℕ) : Type 0 where
  pub shuttle : s < length paths
  pub stop : i < length (path_at paths s)
  pub wrong : Keeps (path_at paths s) i → ⊥
  pub before : (j : ℕ) → j < i → Keeps (path_at paths s) j
  pub shuttles_before : (r : ℕ) → r < s → PathKeeps (path_at paths r)

-- What is found wrong first refuses a plan, with its number and its values.
pub record RefusedByNumber {X E : Type 0} (refusal : E → Option NumberAndValues) (r : Result X E) (bs : List ℕ) : Type 0 where
  pub torn : (place : ℕ) → layout bs ≡ Err place → Refused refusal r 3 (place ∷ [])
  pub wrong_stop :
      (l : Layout) → layout bs ≡ Ok l → (s i : ℕ) → FirstWrongStop l.paths s i → Refused refusal r 4 (s ∷ i ∷ [])
  pub too_many : (q : Ruled bs) → MOST_MEETINGS < length (meetings q.plan.paths) → Refused refusal r 6 []
  pub collision :
      (q : Ruled bs) → length (meetings q.plan.paths) ≤ MOST_MEETINGS → (c : Clash)
      → FirstCollision q.plan.paths c → Refused refusal r 5 (clash_values c)
