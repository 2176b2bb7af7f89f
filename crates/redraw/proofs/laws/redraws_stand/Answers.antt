use Rattle.redraw.proofs.Below.{Below}
use Rattle.redraw.proofs.Redrawing.{redraws_best, redraws_one_cost, redraws_with_room, runs_searchable, words_stand}
use Rattle.redraw.proofs.laws.redraws_stand.Goals as goal

pub returns : goal.returns
returns c =
    let b : Below = record {
      ticks = c.entry_ticks_stand.ensures;
      rounds = c.rounds_stand.ensures;
      waits = c.waits_stand.ensures;
      runs = c.runs_stand.ensures;
      totals = c.totals_stand.ensures;
    } in
    record {
      words = words_stand b;
      searchable = runs_searchable b;
      best = redraws_best b c.searches_stand.ensures.least;
      same = redraws_one_cost b c.searches_stand.ensures.least;
      finds = redraws_with_room b c.searches_stand.ensures.finds;
    }
