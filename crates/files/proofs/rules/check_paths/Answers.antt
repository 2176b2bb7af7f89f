use Rattle.std.proofs.Common.{◌≡◌, List, sym, ◌∙◌, subst, below_more}
use Rattle.files.specs.declared.plan.Stop.{Stop}
use Rattle.files.specs.Rules.{path_at, PathKeeps}
use Rattle.files.specs.Views.{paths_of}
use Rattle.files.proofs.Paths.{path_read}
use Rattle.files.proofs.rules.check_paths.Goals as goal

pub loop-shuttle-preserved : goal.loop-shuttle-preserved
loop-shuttle-preserved c =
    let p : path_at (paths_of c.args.paths.now) c.loop-shuttle.shuttle ≡ c.as_slice.result.now = path_read c.args.paths.now c.loop-shuttle.shuttle c.index-paths-shuttle.result c.loop-shuttle-test.true c.index-paths-shuttle.is ∙ sym c.as_slice.ensures.value in
    below_more _ _ c.loop-shuttle.invariant (subst (λ (x : List Stop). PathKeeps x) (sym p) c.in_ok-check_path.ensures)
