use Rattle.std.proofs.Common.{◌≡◌, ℕ, List, [], Some, None, Ok, Err, Option, Result, sym, ◌∙◌}
use Rattle.std.specs.Result.{result_ok}
use Rattle.plans.specs.declared.plan.Plan.{Plan}
use Rattle.refusals.specs.declared.Refusal.{Refusal}
use Rattle.run.specs.Calls.{ReadsPlan}
use Rattle.dispatch.specs.Agreement.{Agrees, OpensFresh}
use Rattle.dispatch.specs.Dispatch.{Dispatch}
use Rattle.dispatch.specs.Law.{Stands}
use Rattle.dispatch.specs.Tally.{Call, tally}
use Rattle.dispatch.proofs.tests.open_and_carry.Goals as goal

opened_fresh :
    (r : Result (Unit {0}) Refusal) (x : Unit {0}) (number : ℕ) (bs : List ℕ) (old new : Option Dispatch)
    → result_ok r ≡ Some x → OpensFresh r number bs old new
    → (plan : Plan) × ReadsPlan (Ok plan) bs × Agrees new (Some (tally plan number []))
opened_fresh (Ok y) x number bs old new e o = o.1
opened_fresh (Err why) x number bs old new e o = absurd (cc)

pub returns : goal.returns
returns g c =
    let fresh = opened_fresh c.open.result c.in_ok-ok.field-0 c.args.number c.args.bytes.now c.new-dispatcher.result c.open.new.self (sym c.ok.ensures.value ∙ c.in_ok-ok.was) c.open.ensures.opened in
    let law = c.carry_all.ensures.lawful fresh.0 c.args.number [] fresh.1.value.1 fresh.2 in
    (fresh.0, (law.calls, (law.agrees, law.stands)))
