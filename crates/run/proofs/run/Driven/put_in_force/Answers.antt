use Rattle.std.proofs.Common.{List, refl, sym, subst}
use Rattle.meetings.specs.declared.meet.First.{First}
use Rattle.run.specs.Calls.{ordered}
use Rattle.run.specs.Lawful.{LawfulFor}
use Rattle.run.specs.Sound.{RunsSoundly}
use Rattle.run.specs.State.{State}
use Rattle.run.specs.Views.{state_in}
use Rattle.run.proofs.run.Driven.put_in_force.Goals as goal

pub invariant_of-self : goal.invariant_of-self
invariant_of-self c =
    let st = state_in c.self.inside in
    let orders = c.args.orders.now in
    let lawful : LawfulFor st orders = subst (λ (st : State). LawfulFor st orders) (sym c.self.view_is) (c.if-not-is_lawful.ensures.0 refl) in
    let sound = c.self.invariant in
    subst (λ (fs : List First). RunsSoundly (ordered fs st)) (sym c.copy_from_slice.ensures.items) (sound.0, c.runs_stand.ensures.orders sound.0 st orders sound.1 lawful)
