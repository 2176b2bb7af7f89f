use Rattle.std.proofs.Common.{◌≡◌, length, rules}
use Rattle.lists.proofs.Layers.{put_below}
use Rattle.lists.proofs.dive.DiveWaitingList.put.Goals as goal

pub returns-then-is_full-clause-placed : goal.returns-then-is_full-clause-placed
returns-then-is_full-clause-placed g c =
    let l = g.L.WaitingList in
    let eight : length c.self.inside.kept.items ≡ 8 = search rules in
    put_below l.nodes l.capacity l.moves c.self.inside.kept.items eight c.args.node c.put.result c.self.inside.below c.put.new.self c.args.self.now c.self.view_is c.put.ensures.placed
