use Rattle.std.proofs.Common.{◌≡◌, ◌<◌, [], ◌∷◌, ◌++◌, length, vec_items, ap, ◌∙◌, arith}
use Rattle.std.proofs.lemmas.List.{map_push}
use Rattle.files.specs.Layout.{body, next_body}
use Rattle.files.specs.Views.{path_of, paths_of}
use Rattle.files.proofs.Fields.{row_more}
use Rattle.files.proofs.layout.Reader.bodies.Goals as goal

pub loop-count-preserved : goal.loop-count-preserved
loop-count-preserved c =
    let lt : c.loop-count.count-index < length c.args.counts.now = omega arith in
    let read = row_more (body c.loop-count.self.bytes.now c.args.counts.now) next_body _ _ _ _ _ _ lt c.loop-count.invariant.0 c.in_ok-path.ensures.value in
    let items : paths_of (vec_items c.push.new.self) ≡ paths_of (vec_items c.loop-count.paths) ++ path_of c.in_ok-path.field-0 ∷ [] = ap paths_of c.in_ok-push.ensures.items ∙ map_push path_of (vec_items c.loop-count.paths) c.in_ok-path.field-0 in
    let long = c.in_ok-path.ensures.len in
    let file = c.in_ok-path.ensures.file in
    let next = c.in_ok-path.ensures.next in
    (cc, cc)
