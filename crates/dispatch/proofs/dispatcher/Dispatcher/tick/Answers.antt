use Rattle.std.proofs.Common.{◌≡◌, ℕ, Option, Ok, sym, ap, ◌∙◌, subst}
use Rattle.dispatch.specs.declared.answers.Answer.TheVariants.{Moved}
use Rattle.dispatch.specs.Agreement.{Does}
use Rattle.dispatch.specs.Dispatch.{Dispatch, dispatch_of}
use Rattle.dispatch.specs.Tally.{Tick}
use Rattle.dispatch.proofs.Doing.{tick_does}
use Rattle.dispatch.proofs.dispatcher.Dispatcher.tick.Goals as goal

pub returns : goal.returns
returns c = rw (← c.self.view_is, c.overtake.ensures) (tick_does c.args.standing c.in_ok-moved.moved c.self.inside.drafts c.self.inside.hand c.self.inside.run c.tick.new.self c.in_ok-moved.ensures.took)
