use Rattle.std.proofs.Common.{◌≡◌, List, Some, Option, Result, get_or, take_all, sym, ap, subst, arith}
use Rattle.refusals.specs.declared.Refusal.{Refusal}
use Rattle.dispatch.specs.declared.answers.Answer.{Answer}
use Rattle.dispatch.specs.declared.calls.Entry.{Entry}
use Rattle.dispatch.specs.Agreement.{Agrees}
use Rattle.dispatch.specs.Carrying.{MayCall, CarriesOn}
use Rattle.dispatch.specs.Lists.{cost_rules, list_rules}
use Rattle.dispatch.proofs.Carrying.{next_idle, next_call, carries_all}
use Rattle.dispatch.proofs.dispatcher.Dispatcher.carry_all.Goals as goal
use Rattle.dispatch.proofs.dispatcher.Dispatcher.carry_all.Goals.{in-Some, in_default}

pub loop-entry-preserved : goal.loop-entry-preserved
loop-entry-preserved g c =
    let l = g.L.WaitingList in
    let costs = cost_rules g.C.Cost.start g.C.Cost.next in
    let lists = list_rules l.nodes l.moves l.capacity in
    let k = c.loop-entry in
    let a = c.args in
    let e = c.entry-item.result in
    let there = get_or k.entries k.entry-index e in
    let new = c.call.new in
    let same : there ≡ get_or k.entries k.entry-index there = ap (λ (x : Entry g.row.C.Denot g.row.L.Denot). get_or k.entries k.entry-index x) c.entry-item.is in
    elim c.match-call.branch [
      | in-Some w ↦ (
          let calls = subst (λ (r : Option (Result Answer Refusal)). MayCall costs lists there k.pockets k.self r new.entry new.pockets new.self) w.in-Some.is c.call.ensures in
          rw w.watch-is (next_call costs lists g.W.Watch.saw a.entries.now a.pockets.now a.watch.now a.self.now k.entry-index k.entries k.pockets k.watch k.self
          k.invariant (omega (arith, c.loop-entry-test.true, k.auto.entries)) k.auto.entries there same new.entry new.pockets w.see.new.self new.self w.in-Some.answer calls w.see.ensures)
          )
      | in_default w ↦ (
          let stays = subst (λ (r : Option (Result Answer Refusal)). MayCall costs lists there k.pockets k.self r new.entry new.pockets new.self) w.in_default.is c.call.ensures in
          next_idle costs lists g.W.Watch.saw a.entries.now a.pockets.now a.watch.now a.self.now k.entry-index k.entries k.pockets k.watch k.self
          k.invariant (omega (arith, c.loop-entry-test.true, k.auto.entries)) k.auto.entries there same new.entry new.pockets c.match-call.watch new.self stays (sym w.watch-is)
          )
    ]

pub returns : goal.returns
returns g c =
    let l = g.L.WaitingList in
    let costs = cost_rules g.C.Cost.start g.C.Cost.next in
    let lists = list_rules l.nodes l.moves l.capacity in
    let k = c.loop-entry in
    let a = c.args in
    carries_all costs lists g.W.Watch.saw c.tallies_stand.ensures.stand a.entries.now a.pockets.now a.watch.now a.self.now k.entries k.pockets k.watch k.self
    (λ o agrees. rw (← take_all k.entry-index a.entries.now c.loop-entry-test.false, ← take_all k.entry-index k.entries (omega (arith, c.loop-entry-test.false, k.auto.entries))) (k.invariant.1 o agrees))
