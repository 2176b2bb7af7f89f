use Rattle.std.proofs.Common.{◌≡◌, ◌<◌, List, length, subst, sym, ◌∙◌, ap, rules}
use borrow.Author.Tests.{tests}
use Rattle.std.specs.List.{AllByRecursion, list_all}
use Rattle.std.proofs.ByRecursion.{All-get_or}
use Rattle.std.proofs.lemmas.Iterator.{YieldsList-from_slice}
use Rattle.std.proofs.lemmas.Iterator.Adapters.{serves_from_places}
use Rattle.std.proofs.lemmas.Iterator.Search.{all_from_yields_List}
use Rattle.traffic.specs.Scene.{done, every}
use Rattle.floor.specs.declared.index.Touch.{Touch}
use Rattle.floor.specs.Touches.{touched}
use Rattle.floor.specs.Under.{orders_under, paths_under, scene_under, touches_under}
use Rattle.floor.proofs.Floors.{touches_are, waits_of}
use Rattle.floor.proofs.Touching.{every_touched}
use Rattle.floor.proofs.scene.Scene.is_clear.Goals as goal
use Rattle.floor.proofs.scene.Scene.is_clear.Goals.{After-at}

-- the touches that are gone over
listed : (c : After-at) → c.at.result.now ≡ touches_under c.args.self.now c.args.at
listed c = c.at.ensures ∙ c.path.ensures.path.each c.args.at.stop c.requires.1

pub all-requires-clause-callable : goal.all-requires-clause-callable
all-requires-clause-callable c =
    let l = c.at.result.now in
    let u = c.args.self.now in
    let n = length (paths_under u) in
    let within : AllByRecursion (λ (t : Touch). t.shuttle < n) l = subst (AllByRecursion (λ (t : Touch). t.shuttle < n)) (sym (listed (goal.at.all-requires-clause-callable c).After-at)) (touches_are u.floor.now c.path.ensures.sound c.args.at) in
    serves_from_places (YieldsList-from_slice l (cc)) (λ x q k. search (rules, tests))
    (λ x k lt e. let h : x.now.shuttle < n = subst (λ (t : Touch). t.shuttle < n) (sym e) (All-get_or _ l k x.now lt within) in search rules)

pub returns : goal.returns
returns c =
    let u = c.args.self.now in
    let l = c.at.result.now in
    all_from_yields_List (λ t. every (done (scene_under u)) (touched (orders_under u) t)) _ _ c.all.result c.all.ensures.ran (YieldsList-from_slice l (cc)) (λ x b q k. search (rules, tests))
    ∙ ap (λ (k : List Touch). list_all (λ t. every (done (scene_under u)) (touched (orders_under u) t)) k) (listed (goal.at.returns c).After-at)
    ∙ every_touched (done (scene_under u)) (orders_under u) (touches_under u c.args.at)
    ∙ ap (every (done (scene_under u))) (waits_of u.floor.now c.path.ensures.sound (orders_under u) c.args.at)
