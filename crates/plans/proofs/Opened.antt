-- A plan is opened exactly when its file and its paths keep all rules.
use Rattle.std.proofs.Common.{◌≡◌, ℕ, ◌≤◌, List, length, Ok, Err, Result, sym, refl, ap, ◌∙◌, subst, arith}
use Rattle.std.specs.List.{ContainsAt}
use Rattle.std.proofs.lemmas.Bool.{both_ways}
use Rattle.files.specs.declared.layout.FileFault.TheVariants.{Torn}
use Rattle.files.specs.declared.layout.FileFault.TheVariants as file
use Rattle.files.specs.declared.layout.FileFault.{FileFault}
use Rattle.files.specs.declared.plan.Stop.{Stop}
use Rattle.files.specs.declared.rules.PathFault.{PathFault}
use Rattle.files.specs.declared.rules.PathFault.TheVariants.{Start, Tick, Place}
use Rattle.files.specs.Bytes.{ReadsExactly}
use Rattle.files.specs.Layout.{Layout, layout}
use Rattle.files.specs.Rules.{path_at, Keeps, PathsKeep, FirstOffence, offender, offence}
use Rattle.files.specs.Views.{layout_of, Gives}
use Rattle.meetings.specs.declared.meet.Meeting.{Meeting}
use Rattle.meetings.specs.declared.meet.MeetingFault.{MeetingFault}
use Rattle.meetings.specs.declared.meet.MeetingFault.TheVariants as meeting
use Rattle.meetings.specs.declared.meet.TheConstants.{MOST_MEETINGS}
use Rattle.meetings.specs.Laws.{MeetingsLaw, ClearLaw, FirstLaw, FirstCollisionLaw}
use Rattle.meetings.specs.Meetings.{meetings, NoClash, FirstClash}
use Rattle.meetings.specs.Settled.{Settled}
use Rattle.meetings.specs.Stays.{stays}
use Rattle.plans.specs.declared.plan.Plan.{Plan}
use Rattle.plans.specs.declared.plan.opening.PlanFault.{PlanFault}
use Rattle.plans.specs.declared.plan.opening.PlanFault.TheVariants.{File, Path, Meetings}
use Rattle.plans.specs.Kept.{plan_layout, IsKept}
use Rattle.plans.specs.Opening.{Opens, Takable, Takes, OpensExactly, FirstsStand, GivesFirstCollision}

pub same_ok : {X E : Type 0} {x y : X} → ◌≡◌ {A = Result X E} (Ok x) (Ok y) → x ≡ y
same_ok e = cc

pub same_err : {X E : Type 0} {d e : E} → ◌≡◌ {A = Result X E} (Err d) (Err e) → d ≡ e
same_err e = cc

pub not_both : {X E : Type 0} {x : X} {e : E} → ◌≡◌ {A = Result X E} (Ok x) (Err e) → ⊥
not_both e = cc

-- the rule that an offence breaks is broken at its stop
pub breaks_rule : (ps : List (List Stop)) (f : PathFault) → FirstOffence ps f → Keeps (path_at ps (offender f)) (offence f) → ⊥
breaks_rule ps (Start s) o k = o.here.broken (k.starts refl)
breaks_rule ps (Tick s i) o k = let b = o.here.broken in omega (arith, k.rises b.0, b.1)
breaks_rule ps (Place s i) o k = let b = o.here.broken in k.differs b.0 b.2

pub keeps_no_offence : (ps : List (List Stop)) (f : PathFault) → PathsKeep ps → FirstOffence ps f → ⊥
keeps_no_offence ps f keeps o = breaks_rule ps f o (keeps (offender f) o.within (offence f) o.here.within)

module _ (bs : List ℕ) where
  -- what is wrong with the file, and with the meetings of its paths, is said of the plan
  pub torn : (e : FileFault) → Gives layout_of (Err e) (layout bs) → Opens (Err (File e)) bs
  torn (Torn place) g = g
  torn file.Memory g = tt

  pub unsettled : (l : Layout) (e : MeetingFault) → layout bs ≡ Ok l → PathsKeep l.paths → Settled (Err e) l.paths → Opens (Err (Meetings e)) bs
  unsettled l meeting.TooMany read rules s = (record { plan = l; read = read; rules = rules }, s)
  unsettled l (meeting.Collision c) read rules s = (record { plan = l; read = read; rules = rules }, s.0, s.1)
  unsettled l meeting.Memory read rules s = tt

module _ (bs : List ℕ) (exact : ReadsExactly bs) (clear : (ps : List (List Stop)) → ClearLaw ps) where
  pub kept :
      (l : Layout) (ms : List Meeting) → layout bs ≡ Ok l → PathsKeep l.paths
      → (ms ≡ meetings l.paths) × (length (meetings l.paths) ≤ MOST_MEETINGS) × NoClash (stays l.paths) → IsKept (record { paths = l.paths; tables = l.tables; meetings = ms })
  kept l ms read rules s = record { limits = ((exact l).0 read).1; rules = rules; few = s.1; clear = (clear l.paths rules).0 s.2; listed = s.0 }

  -- what was read of the file of a plan is that plan
  same_plan : (l m : Layout) → Takable bs l → layout bs ≡ Ok m → m ≡ l
  same_plan l m t e = same_ok (sym e ∙ (exact l).1 t.bytes t.limits)

  takable : (p : Plan) → Opens (Ok p) bs → Takable bs (plan_layout p)
  takable p o =
      let w = (exact (plan_layout p)).0 o.0 in
      record { bytes = w.0; limits = w.1; rules = o.1.rules; few = o.1.few; clear = o.1.clear }

  takes : (r : Result Plan PlanFault) → Opens r bs → (l : Layout) → Takable bs l → Takes r l
  takes (Ok p) o l t = same_plan l (plan_layout p) t o.0
  takes (Err (File (Torn place))) o l t = absurd (not_both (sym ((exact l).1 t.bytes t.limits) ∙ o))
  takes (Err (File file.Memory)) o l t = refl
  takes (Err (Path f)) o l t =
      absurd (keeps_no_offence l.paths f t.rules (subst (λ (m : Layout). FirstOffence m.paths f) (same_plan l o.0 t o.1) o.2))
  takes (Err (Meetings meeting.TooMany)) o l t =
      absurd (omega (arith, t.few, o.1, ap (λ (m : Layout). length (meetings m.paths)) (same_plan l o.0.plan t o.0.read)))
  takes (Err (Meetings (meeting.Collision c))) o l t =
      let f = subst (λ (m : Layout). FirstClash (stays m.paths) c) (same_plan l o.0.plan t o.0.read) o.2 in
      absurd (both_ways _ ((clear l.paths t.rules).1 t.clear f.a f.b f.ordered f.within) f.clash)
  takes (Err (Meetings meeting.Memory)) o l t = refl

  pub opens_exactly : (r : Result Plan PlanFault) → Opens r bs → OpensExactly r bs
  opens_exactly r o = (λ p e. takable p (subst (λ (q : Result Plan PlanFault). Opens q bs) e o), takes r o)

pub firsts_stand : (p : Plan) → MeetingsLaw p.paths → ClearLaw p.paths → FirstLaw p.paths → IsKept p → FirstsStand (Ok p)
firsts_stand p listed clear first k m h =
    let there = subst (λ (l : List Meeting). ContainsAt l m) k.listed h in
    (listed.sound m there, first k.rules ((clear k.rules).1 k.clear) m there)

pub gives_first_collision : (bs : List ℕ) → ((ps : List (List Stop)) → FirstCollisionLaw ps) → (r : Result Plan PlanFault) → Opens r bs → GivesFirstCollision r bs
gives_first_collision bs law r o c e =
    let given : Opens (Err (Meetings (meeting.Collision c))) bs = subst (λ (q : Result Plan PlanFault). Opens q bs) e o in
    (given.0, law given.0.plan.paths given.0.rules c given.2)
