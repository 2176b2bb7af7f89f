use Rattle.run.proofs.Executing.{arrivals_execute}
use Rattle.run.proofs.Guarding.{sound_is_safe, left_is_few, keeps_tick, keeps_still}
use Rattle.run.proofs.Listing.{opens_listed}
use Rattle.run.proofs.Sounding.{fresh_is_sound, holds_keep_sound, ticks_keep_sound, lawful_orders_keep_sound, agreed_is_on_paths, shuttles_are_all}
use Rattle.run.proofs.laws.runs_stand.Goals as goal

pub returns : goal.returns
returns c =
    let ticks = c.entry_ticks_stand.ensures in
    let rounds = c.rounds_stand.ensures in
    let steps = c.steps_stand.ensures in
    let plans = c.plans_stand.ensures in
    let floors = c.floors_stand.ensures in
    record {
      fresh = fresh_is_sound ticks rounds steps plans floors;
      holds = holds_keep_sound ticks rounds steps plans floors;
      ticks = ticks_keep_sound ticks rounds steps plans floors;
      orders = lawful_orders_keep_sound ticks rounds steps plans floors c.waits_stand.ensures;
      safety = sound_is_safe steps plans;
      few = left_is_few;
      safe = keeps_tick ticks rounds steps plans floors;
      still = keeps_still steps plans;
      all = shuttles_are_all plans;
      agreed = agreed_is_on_paths ticks rounds steps plans floors c.waits_stand.ensures;
      execution = arrivals_execute ticks rounds steps plans floors;
      opens = opens_listed;
    }
