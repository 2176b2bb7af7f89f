use Rattle.std.proofs.Common.{◌≡◌, ◌≤◌, List, length, vec_items, Ok, Err, subst}
use Rattle.std.proofs.lemmas.Result.{err_from_is_err_and}
use Rattle.files.specs.declared.plan.Path as plan
use Rattle.files.specs.Rules.{PathsKeep, FirstOffence}
use Rattle.files.specs.Views.{paths_of, layout_of}
use Rattle.meetings.specs.declared.meet.TheConstants.{MOST_MEETINGS}
use Rattle.meetings.specs.Meetings.{meetings, NoClash}
use Rattle.meetings.specs.Settled.{Settled}
use Rattle.meetings.specs.Stays.{stays}
use Rattle.plans.specs.declared.plan.Plan.{Plan}
use Rattle.plans.specs.declared.plan.opening.PlanFault.TheVariants.{File, Path, Meetings}
use Rattle.plans.specs.Kept.{IsKept}
use Rattle.plans.specs.Opening.{Opens}
use Rattle.plans.proofs.Numbered.{refused_by_number}
use Rattle.plans.proofs.Opened.{torn, unsettled, kept, opens_exactly, firsts_stand, gives_first_collision}
use Rattle.plans.proofs.plan.opening.read_plan.Goals as goal
use Rattle.plans.proofs.plan.opening.read_plan.Goals.{In_ok-meetings}

pub returns-in_err-file : goal.returns-in_err-file
returns-in_err-file c =
    let bs = c.args.bytes.now in
    let laws = c.meetings_stand.ensures in
    let e = c.in_err-file.field-0.0 in
    let q = err_from_is_err_and c.from_residual.result c.from_residual.ensures.1 in
    let o : Opens (Err (File e)) bs = torn bs e c.in_err-file.ensures.value in
    rw (q.1, q.2) (record {
      value = o;
      exact = opens_exactly bs c.in_err-file.ensures.exact laws.clear (Err (File e)) o;
      firsts = tt;
      torn = c.in_err-file.ensures.refused;
      collision = gives_first_collision bs laws.collision (Err (File e)) o;
      numbers = refused_by_number bs laws.collision (Err (File e)) o;
    })

pub returns-in_err-check_paths : goal.returns-in_err-check_paths
returns-in_err-check_paths c =
    let bs = c.args.bytes.now in
    let laws = c.meetings_stand.ensures in
    let read = c.in_ok-file.ensures in
    let f = c.in_err-check_paths.field-0.0 in
    let q = err_from_is_err_and c.from_residual-in_err-check_paths.result c.from_residual-in_err-check_paths.ensures.1 in
    let first = subst (λ (ps : List plan.Path). FirstOffence (paths_of ps) f) c.as_slice.ensures.value c.in_err-check_paths.ensures in
    let o : Opens (Err (Path f)) bs = (layout_of c.in_ok-file.file, read.value, first) in
    rw (q.1, q.2) (record {
      value = o;
      exact = opens_exactly bs read.exact laws.clear (Err (Path f)) o;
      firsts = tt;
      torn = read.refused;
      collision = gives_first_collision bs laws.collision (Err (Path f)) o;
      numbers = refused_by_number bs laws.collision (Err (Path f)) o;
    })

pub returns-in_err-meetings : goal.returns-in_err-meetings
returns-in_err-meetings c =
    let bs = c.args.bytes.now in
    let laws = c.meetings_stand.ensures in
    let read = c.in_ok-file.ensures in
    let e = c.in_err-meetings.field-0.0 in
    let q = err_from_is_err_and c.from_residual-in_err-meetings.result c.from_residual-in_err-meetings.ensures.1 in
    let rules = subst (λ (ps : List plan.Path). PathsKeep (paths_of ps)) c.as_slice.ensures.value c.in_ok-check_paths.ensures in
    let said = subst (λ (ps : List plan.Path). Settled (Err e) (paths_of ps)) c.as_slice-2.ensures.value c.in_err-meetings.ensures.value in
    let o : Opens (Err (Meetings e)) bs = unsettled bs (layout_of c.in_ok-file.file) e read.value rules said in
    rw (q.1, q.2) (record {
      value = o;
      exact = opens_exactly bs read.exact laws.clear (Err (Meetings e)) o;
      firsts = tt;
      torn = read.refused;
      collision = gives_first_collision bs laws.collision (Err (Meetings e)) o;
      numbers = refused_by_number bs laws.collision (Err (Meetings e)) o;
    })

-- the plan that is opened is kept
opened_kept : (c : In_ok-meetings) → IsKept (record { paths = paths_of (vec_items c.in_ok-file.file.paths); tables = vec_items c.in_ok-file.file.tables; meetings = vec_items c.in_ok-meetings.meetings })
opened_kept c =
    let read = c.in_ok-file.ensures in
    let ms = vec_items c.in_ok-meetings.meetings in
    let rules = subst (λ (ps : List plan.Path). PathsKeep (paths_of ps)) c.as_slice.ensures.value c.in_ok-check_paths.ensures in
    let said = subst (λ (ps : List plan.Path). (ms ≡ meetings (paths_of ps)) × (length (meetings (paths_of ps)) ≤ MOST_MEETINGS) × NoClash (stays (paths_of ps))) c.as_slice-2.ensures.value c.in_ok-meetings.ensures.value in
    kept c.args.bytes.now read.exact c.meetings_stand.ensures.clear (layout_of c.in_ok-file.file) ms read.value rules said

pub invariant_of-result : goal.invariant_of-result
invariant_of-result c = opened_kept c

pub returns : goal.returns
returns c =
    let bs = c.args.bytes.now in
    let laws = c.meetings_stand.ensures in
    let read = c.in_ok-file.ensures in
    let p : Plan = record { paths = paths_of (vec_items c.in_ok-file.file.paths); tables = vec_items c.in_ok-file.file.tables; meetings = vec_items c.in_ok-meetings.meetings } in
    let o : Opens (Ok p) bs = (read.value, opened_kept c) in
    record {
      value = o;
      exact = opens_exactly bs read.exact laws.clear (Ok p) o;
      firsts = firsts_stand p (laws.listed p.paths) (laws.clear p.paths) (laws.first p.paths) o.1;
      torn = read.refused;
      collision = gives_first_collision bs laws.collision (Ok p) o;
      numbers = refused_by_number bs laws.collision (Ok p) o;
    }
