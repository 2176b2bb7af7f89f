use Rattle.std.proofs.Common.{◌≡◌, List, ◌∙◌, subst}
use Rattle.std.proofs.lemmas.Result.{err_from_is_err_and}
use Rattle.files.specs.Views.{paths_of}
use Rattle.meetings.specs.declared.clash.Clash.{Clash}
use Rattle.meetings.specs.declared.stays.Stay.{Stay}
use Rattle.meetings.specs.Meetings.{FirstClash}
use Rattle.meetings.specs.Stays.{stays}
use Rattle.meetings.proofs.Clashing.{first_collision_law}
use Rattle.meetings.proofs.settle.Goals as goal

pub returns-in_err-first_clash-clause-collision : goal.returns-in_err-first_clash-clause-collision
returns-in_err-first_clash-clause-collision c d is keeps =
    let ps = paths_of c.args.paths.now in
    let found = c.in_err-first_clash.field-0.0 in
    let out = err_from_is_err_and c.from_residual-in_err-first_clash.result c.from_residual-in_err-first_clash.ensures.1 in
    let same : found ≡ d = cc (is, out.1, out.2) in
    let all : c.as_slice-then-meetings.result.now ≡ stays ps = c.as_slice-then-meetings.ensures.value ∙ c.in_ok-stays.ensures in
    first_collision_law c.paths_stand.ensures.rise ps keeps d
    (subst (λ (x : Clash). FirstClash (stays ps) x) same (subst (λ (xs : List Stay). FirstClash xs found) all c.in_err-first_clash.ensures))

pub returns-in_err-stays-clause-first : goal.returns-in_err-stays-clause-first
returns-in_err-stays-clause-first c = c.meetings_stand.ensures.first (paths_of c.args.paths.now)

pub returns-in_err-meetings-clause-first : goal.returns-in_err-meetings-clause-first
returns-in_err-meetings-clause-first c = c.meetings_stand.ensures.first (paths_of c.args.paths.now)

pub returns-clause-first : goal.returns-clause-first
returns-clause-first c = c.meetings_stand.ensures.first (paths_of c.args.paths.now)
