use Rattle.std.proofs.Common.{◌≡◌, List, length, sym, ap, ◌∙◌, subst, subst₂}
use Rattle.std.specs.List.{AllByRecursion}
use Rattle.std.proofs.lemmas.List.{length-map}
use Rattle.files.specs.Views.{path_of}
use Rattle.meetings.specs.Laws.{Meets}
use Rattle.floor.specs.Floors.{IsFloor}
use Rattle.floor.specs.Indexes.{IsIndexOf}
use Rattle.floor.specs.Shuttles.{all_fresh}
use Rattle.floor.proofs.Calling.{floor_fresh}
use Rattle.floor.proofs.Floors.{all_meet}
use Rattle.floor.proofs.floor.Floor.new.Goals as goal
use Rattle.floor.proofs.floor.Floor.new.Goals.{In_ok-shuttles}

pub new-requires-clause-meet : goal.new-requires-clause-meet
new-requires-clause-meet c =
    let plan = c.args.plan in
    subst₂ (λ ps ms. AllByRecursion (Meets ps) ms) (sym c.paths.ensures.value) (sym c.meetings.ensures.value) (all_meet plan c.paths.ensures.kept (c.meetings_stand.ensures.listed plan.paths))

pub invariant_of-result : goal.invariant_of-result
invariant_of-result c =
    let plan = c.args.plan in
    let x = c.in_ok-index.index in
    let fresh : c.in_ok-shuttles.shuttles ≡ all_fresh (length plan.paths) =
    c.in_ok-shuttles.ensures ∙ ap all_fresh (sym (length-map c.paths-2.result.now path_of) ∙ ap (λ (l : List _). length l) c.paths-2.ensures.value) in
    let index = subst₂ (λ ps ms. IsIndexOf ps ms x) c.paths.ensures.value c.meetings.ensures.value c.in_ok-index.ensures in
    subst (λ xs. IsFloor (record { plan = plan; shuttles = xs }) x) (sym fresh) (floor_fresh plan x c.paths.ensures.kept (c.meetings_stand.ensures.listed plan.paths) index)
