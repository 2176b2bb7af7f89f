use Rattle.std.proofs.Common.{◌≡◌, ◌++◌, sym, ◌∙◌}
use Rattle.files.specs.Rules.{path_at}
use Rattle.files.specs.Views.{paths_of}
use Rattle.meetings.specs.Stays.{path_stays}
use Rattle.meetings.proofs.Counts.{joined_more}
use Rattle.meetings.proofs.stays.stays_of.Goals as goal

pub loop-shuttle-preserved : goal.loop-shuttle-preserved
loop-shuttle-preserved c =
    let s = c.loop-shuttle.shuttle in
    let ps = paths_of c.args.paths.now in
    let here : c.as_slice.result.now ≡ path_at ps s = c.as_slice.ensures.value ∙ sym (c.paths_stand.ensures.order c.args.paths.now s c.index-paths-shuttle.result c.loop-shuttle-test.true c.index-paths-shuttle.is) in
    c.in_ok-add_stays.ensures
    ∙ (λ i. c.loop-shuttle.invariant i ++ path_stays s (here i))
    ∙ sym (joined_more (λ t. path_stays t (path_at ps t)) s)
