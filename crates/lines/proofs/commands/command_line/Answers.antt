use Rattle.std.proofs.Common.{◌≡◌, ℕ, List, [], ◌∷◌, ◌++◌, IfOk, Some, string_bytes, codes, decimal, sym, ap, ◌∙◌, subst, append_assoc, rules}
use Rattle.std.proofs.lemmas.Result.{IfOk-weaker}
use Rattle.lines.specs.declared.commands.Command.{Command}
use Rattle.lines.specs.Lines.{command_of, command_text}
use Rattle.lines.proofs.Spelling.{hold_back, tick_back, redraw_back}
use Rattle.lines.proofs.commands.command_line.Goals as goal

abbrev Back : Command → Type 0
Back k = command_of (command_text k) ≡ Some k

-- the pieces of the format, bracketed as the line is
regroup : (a b c d e : List ℕ) → a ++ (b ++ (c ++ (d ++ e))) ≡ a ++ b ++ c ++ d ++ e
regroup a b c d e = simp append_assoc

pub returns-in-Hold : goal.returns-in-Hold
returns-in-Hold c =
    let s = c.in-Hold.shuttle in
    let d = c.in-Hold.ticks in
    let back : Back c.args.command = subst Back (sym c.in-Hold.is) (hold_back s d (search rules) (search rules)) in
    let pieces : IfOk c.format.result (λ t. string_bytes t ≡ codes "H " ++ (decimal s ++ (codes " " ++ (decimal d ++ 10 ∷ [])))) = search rules in
    let text : IfOk c.format.result (λ t. string_bytes t ≡ command_text c.args.command) =
    IfOk-weaker c.format.result _ _ (λ t e. e ∙ regroup (codes "H ") (decimal s) (codes " ") (decimal d) (10 ∷ []) ∙ ap command_text (sym c.in-Hold.is)) pieces in
    record { text = text; back = IfOk-weaker c.format.result _ _ (λ t e. ap command_of e ∙ back) text }

pub returns-in-Tick : goal.returns-in-Tick
returns-in-Tick c =
    let back : Back c.args.command = subst Back (sym c.in-Tick.is) (tick_back c.in-Tick.standing (search rules)) in
    let text : IfOk c.format-in-Tick.result (λ t. string_bytes t ≡ command_text c.args.command) = search rules in
    record { text = text; back = IfOk-weaker c.format-in-Tick.result _ _ (λ t e. ap command_of e ∙ back) text }

pub returns-in-Redraw : goal.returns-in-Redraw
returns-in-Redraw c =
    let back : Back c.args.command = subst Back (sym c.in-Redraw.is) (redraw_back c.in-Redraw.budget (search rules)) in
    let text : IfOk c.format-in-Redraw.result (λ t. string_bytes t ≡ command_text c.args.command) = search rules in
    record { text = text; back = IfOk-weaker c.format-in-Redraw.result _ _ (λ t e. ap command_of e ∙ back) text }
