use Rattle.std.proofs.Common.{sym, ◌∙◌, rules}
use Rattle.lines.proofs.Spelling.{begins, exactly}
use Rattle.lines.proofs.commands.read_line.Goals as goal

pub returns-in_err-shuttle-in-H-clause-exact : goal.returns-in_err-shuttle-in-H-clause-exact
returns-in_err-shuttle-in-H-clause-exact c =
    let is = begins c.args.line.now 72 (search rules) (search rules) in
    let was = sym c.last_two_numbers.ensures ∙ c.in_err-shuttle-in-H.was in
    exactly _ _ (search rules)

pub returns-in_err-standing-in-T-clause-exact : goal.returns-in_err-standing-in-T-clause-exact
returns-in_err-standing-in-T-clause-exact c =
    let is = begins c.args.line.now 84 (search rules) (search rules) in
    let was = sym c.last_number.ensures ∙ c.in_err-standing-in-T.was in
    exactly _ _ (search rules)

pub returns-in_ok-shuttle-in-H-clause-exact : goal.returns-in_ok-shuttle-in-H-clause-exact
returns-in_ok-shuttle-in-H-clause-exact c =
    let is = begins c.args.line.now 72 (search rules) (search rules) in
    let was = sym c.last_two_numbers.ensures ∙ c.in_ok-shuttle-in-H.was in
    exactly _ _ (search rules)

pub returns-in_ok-standing-in-T-clause-exact : goal.returns-in_ok-standing-in-T-clause-exact
returns-in_ok-standing-in-T-clause-exact c =
    let is = begins c.args.line.now 84 (search rules) (search rules) in
    let was = sym c.last_number.ensures ∙ c.in_ok-standing-in-T.was in
    exactly _ _ (search rules)

pub returns-in_err-budget-in-R-clause-exact : goal.returns-in_err-budget-in-R-clause-exact
returns-in_err-budget-in-R-clause-exact c =
    let is = begins c.args.line.now 82 (search rules) (search rules) in
    let was = sym c.last_number-in-R.ensures ∙ c.in_err-budget-in-R.was in
    exactly _ _ (search rules)

pub returns-in_ok-budget-in-R-clause-exact : goal.returns-in_ok-budget-in-R-clause-exact
returns-in_ok-budget-in-R-clause-exact c =
    let is = begins c.args.line.now 82 (search rules) (search rules) in
    let was = sym c.last_number-in-R.ensures ∙ c.in_ok-budget-in-R.was in
    exactly _ _ (search rules)

pub returns-in-10-clause-exact : goal.returns-in-10-clause-exact
returns-in-10-clause-exact c = exactly _ _ (search rules)
