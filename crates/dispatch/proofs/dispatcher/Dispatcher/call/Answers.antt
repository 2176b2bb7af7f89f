use Rattle.std.proofs.Common.{rules, ◌≡◌, ℕ, Some, None, Ok, Err, Option, Result, refl, sym, ap, ◌∙◌, subst}
use Rattle.dispatch.specs.declared.answers.Answer.TheVariants as answer
use Rattle.dispatch.specs.Agreement.{told}
use Rattle.dispatch.specs.Tally.{Hold, Tick, Adopt, Dismiss}
use Rattle.dispatch.proofs.dispatcher.Dispatcher.call.Goals as goal

pub returns-in-Hold : goal.returns-in-Hold
returns-in-Hold g c =
    let says : c.map.result ≡ told (λ _. answer.Held) c.hold.result = search rules in
    rw (c.in-Hold.is, says) (record { call = Hold c.in-Hold.shuttle c.in-Hold.ticks; makes = (refl, refl, refl); does = c.hold.ensures })

pub returns-in-Tick : goal.returns-in-Tick
returns-in-Tick g c =
    let says : c.map-in-Tick.result ≡ told (λ w. answer.Moved w) c.tick.result = search rules in
    rw (c.in-Tick.is, says) (record { call = Tick c.in-Tick.standing; makes = (refl, refl, refl); does = c.tick.ensures })

pub returns-else-not-is_empty : goal.returns-else-not-is_empty
returns-else-not-is_empty g c =
    let d = c.draft_into.ensures.drafts in
    rw c.in-Draft.is (record {
      call = _;
      makes = record {
        empty = c.if-not-is_empty.ensures.0 refl;
        made_with = d.cost;
        is = d.is;
        places = d.places;
        calls = refl;
        slip = c.draft_into.ensures.pockets;
        list_after = c.draft_into.new.list;
        leaves = d.leaves;
        size = c.draft_into.ensures.size;
        handed_back = refl;
      };
      does = d.does;
    })

pub returns-in_ok-slip-in-Adopt : goal.returns-in_ok-slip-in-Adopt
returns-in_ok-slip-in-Adopt g c =
    let slip = c.in_ok-slip-in-Adopt.slip in
    let says : c.map-in-Adopt.result ≡ told (λ w. answer.Adopted w) c.adopt.result = search rules in
    rw (c.in-Adopt.is, says) (record {
      call = Adopt slip.run slip.draft;
      makes = record { slip = slip; has = c.in_ok-slip-in-Adopt.ensures.0; calls = refl; taken = c.in_ok-slip-in-Adopt.ensures.1; handed_back = refl };
      does = c.adopt.ensures;
    })

pub returns-in_ok-slip-in-Dismiss : goal.returns-in_ok-slip-in-Dismiss
returns-in_ok-slip-in-Dismiss g c =
    let slip = c.in_ok-slip-in-Dismiss.slip in
    let says : c.map-in-Dismiss.result ≡ told (λ _. answer.Dismissed) c.dismiss.result = search rules in
    rw (c.in-Dismiss.is, says) (record {
      call = Dismiss slip.run slip.draft;
      makes = record { slip = slip; has = c.in_ok-slip-in-Dismiss.ensures.0; calls = refl; taken = c.in_ok-slip-in-Dismiss.ensures.1; handed_back = refl };
      does = c.dismiss.ensures;
    })
