-- Every dispatcher agrees with some tally.
use Rattle.std.proofs.Common.{◌≡◌, Some, None, Option, refl, ap, arith}
use Rattle.std.specs.Option.{option_map}
use Rattle.dispatch.specs.declared.dispatcher.HandDraft.{HandDraft}
use Rattle.dispatch.specs.Agreement.{Agrees}
use Rattle.dispatch.specs.Costing.{Costing}
use Rattle.dispatch.specs.Dispatch.{Dispatch}
use Rattle.dispatch.specs.Tally.{MadeDraft, Tally, hand_of}

-- a cost by which everything costs nothing
nothing : Costing
nothing = record {
  start = 0;
  next = λ t shuttle a. 0;
  is = record {
    later = λ t shuttle a b u v le. omega arith;
    greater = λ t u shuttle a l m le. omega arith;
    fits = (omega arith, λ t shuttle a l m. omega arith);
  };
}

abbrev made : HandDraft → MadeDraft
made d = record { draft = d; made_with = nothing }

abbrev tally_of : Dispatch → Tally
tally_of d = record { state = d.state; moved = 0; drafts = d.drafts; hand = option_map made d.hand }

hand_back : (h : Option HandDraft) → h ≡ hand_of (option_map made h)
hand_back None = refl
hand_back (Some d) = refl

pub agreeing : (d : Option Dispatch) → (o : Option Tally) × Agrees d o
agreeing None = (None, refl)
agreeing (Some d) = (Some (tally_of d), ap (λ (h : Option HandDraft). Some (let e : Dispatch = record { state = d.state; drafts = d.drafts; hand = h } in e)) (hand_back d.hand))
