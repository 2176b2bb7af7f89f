use Rattle.std.proofs.Common.{◌≡◌, ◌<◌, eqb, List, length, get_or, vec_items, sym, ap, ◌∙◌, rules, arith}
use borrow.Author.Tests.{tests}
use Rattle.std.specs.List.{list_any}
use Rattle.std.proofs.lemmas.Iterator.{YieldsList-from_slice}
use Rattle.std.proofs.lemmas.Iterator.Search.{any_from_yields_List}
use Rattle.std.proofs.lemmas.List.{get_or_default, length-map}
use Rattle.files.specs.declared.plan.Path as plan
use Rattle.files.specs.declared.plan.Stop.{Stop}
use Rattle.files.specs.Rules.{path_at, stop_at}
use Rattle.files.specs.Views.{path_of, paths_of}
use Rattle.floor.specs.Positions.{paths_in, tables_in}
use Rattle.floor.proofs.Indexing.{path_read}
use Rattle.floor.proofs.floor.Floor.is_table.Goals as goal
use Rattle.floor.proofs.floor.Floor.is_table.Goals.{After-any}

-- the stop that is read
stop_is : (c : After-any) → c.index.result.now ≡ stop_at (path_at (paths_in c.args.self.now) c.args.at.shuttle) c.args.at.stop
stop_is c =
    let s = c.args.at.shuttle in
    let xs = c.paths.result.now in
    let paths : paths_of xs ≡ paths_in c.args.self.now = c.paths.ensures.value ∙ ap paths_in c.self.view_is in
    let there : s < length xs = omega (arith, c.requires.0, ap (λ (l : List (List Stop)). length l) paths, length-map xs path_of) in
    let path : path_at (paths_in c.args.self.now) s ≡ vec_items c.index-paths-at.result.stops = ap (λ l. path_at l s) (sym paths) ∙ path_read xs s c.index-paths-at.result there c.index-paths-at.is in
    c.index.ensures
    ∙ ap (λ (p : plan.Path). get_or (vec_items p.stops) c.args.at.stop c.index.result.now) (sym c.index-paths-at.is)
    ∙ ap (λ (l : List Stop). get_or l c.args.at.stop c.index.result.now) (sym path)
    ∙ get_or_default (path_at (paths_in c.args.self.now) s) c.args.at.stop c.index.result.now _ c.requires.1

pub returns : goal.returns
returns c =
    let place = c.index.result.now.place in
    any_from_yields_List (λ table. eqb table place) _ _ c.any.result c.any.ensures.ran (YieldsList-from_slice c.tables.result.now (cc)) (λ x b q k. search (rules, tests))
    ∙ ap (λ l. list_any (λ table. eqb table place) l) (c.tables.ensures.value ∙ ap tables_in c.self.view_is)
    ∙ ap (λ (stop : Stop). list_any (λ table. eqb table stop.place) (tables_in c.args.self.now)) (stop_is c)
