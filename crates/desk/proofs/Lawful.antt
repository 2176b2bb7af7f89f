-- Lines from the tally of a list of calls, and lines that make no call.
use Rattle.std.proofs.Common.{◌≡◌, ℕ, List, [], ◌∷◌, ◌++◌, Some, None, Option, refl, ap, ◌∙◌, subst}
use Rattle.std.specs.Option.{option_map}
use Rattle.lines.specs.declared.commands.Command.{Command}
use Rattle.lines.specs.declared.commands.Command.TheVariants as command
use Rattle.lines.specs.declared.replies.Reply.{Reply}
use Rattle.refusals.specs.declared.Refusal.TheVariants.{BadLine}
use Rattle.run.specs.State.{State}
use Rattle.dispatch.specs.Carrying.{after_list}
use Rattle.dispatch.specs.Dispatch.{Dispatch}
use Rattle.dispatch.specs.Law.{TalliesStand}
use Rattle.dispatch.specs.Tally.{Tally, Call, after, after_all, tally, fresh_tally, shown}
use Rattle.desk.proofs.Least.{leaves_least}
use Rattle.desk.specs.Calls.{refused_by}
use Rattle.desk.specs.Replies.{SheetShown, WritesSheet, Obeyed, CarriesOut}

after_list-tally : (calls : List Call) (t : Tally) → after_list calls (Some t) ≡ Some (after_all calls t)
after_list-tally [] t = refl
after_list-tally (call ∷ calls) t = after_list-tally calls (after call t)

after_all-joined : (before calls : List Call) (t : Tally) → after_all calls (after_all before t) ≡ after_all (before ++ calls) t
after_all-joined [] calls t = refl
after_all-joined (call ∷ before) calls t = after_all-joined before calls (after call t)

pub lawfully : TalliesStand → (line : Option Command) (r : Reply) (old new : Option Dispatch) (sheet sheet_after : List ℕ)
    → Obeyed line r old new sheet sheet_after → CarriesOut line r old new sheet sheet_after
lawfully stand line r old new sheet sheet_after obeyed = record {
  tallied = obeyed;
  lawful = λ plan number before kept agrees.
      let k = obeyed (Some (tally plan number before)) agrees in
      let there : after_list k.calls (Some (tally plan number before)) ≡ Some (tally plan number (before ++ k.calls)) =
      after_list-tally k.calls (tally plan number before) ∙ ap (λ (t : Tally). Some t) (after_all-joined before k.calls (fresh_tally plan number)) in
      record {
        calls = k.calls;
        makes = k.makes;
        reply = k.reply;
        draft = k.draft;
        agrees = k.agrees ∙ ap (option_map shown) there;
        stands = stand plan number (before ++ k.calls) kept;
        least = leaves_least stand plan number before kept line r sheet sheet_after k.calls k.makes k.reply;
      };
}

state_shown : (o : Option Tally) → option_map (λ d. d.state) (option_map shown o) ≡ option_map (λ t. t.state) o
state_shown None = refl
state_shown (Some t) = refl

-- the sheet
pub sheet_obeyed : (r : Reply) (d : Option Dispatch) (sheet sheet_after : List ℕ) → SheetShown d r sheet sheet_after → Obeyed (Some command.Sheet) r d d sheet sheet_after
sheet_obeyed r d sheet sheet_after h o agrees = record {
  calls = [];
  makes = refl;
  reply = subst (λ (st : Option State). WritesSheet st r sheet sheet_after) (ap (λ (x : Option Dispatch). option_map (λ d. d.state) x) agrees ∙ state_shown o) h;
  draft = tt;
  agrees = agrees;
}

-- a bad line
pub bad_obeyed : (d : Option Dispatch) (sheet : List ℕ) → Obeyed None (refused_by BadLine) d d sheet sheet
bad_obeyed d sheet o agrees = record { calls = []; makes = refl; reply = (refl, refl); draft = tt; agrees = agrees }
