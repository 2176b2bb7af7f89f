-- Why orders are not redrawn, and how a call is refused for it.
use Rattle.refusals.specs.declared.Refusal.{Refusal}
use Rattle.refusals.specs.declared.Refusal.TheVariants as refusal
use Rattle.search.specs.declared.found.SearchFault.{SearchFault}
use Rattle.search.specs.declared.found.SearchFault.TheVariants.{Full, Budget}
use Rattle.redraw.specs.declared.redrawn.RedrawFault.{RedrawFault}
use Rattle.redraw.specs.declared.redrawn.RedrawFault.TheVariants.{TooManyOpen, ListFull, BudgetSpent}

-- what stopped the search
abbrev pub from_search : SearchFault → RedrawFault
from_search (Full taken) = ListFull taken
from_search (Budget taken) = BudgetSpent taken

-- the refusal of a call that redraws
abbrev pub refusal_of : RedrawFault → Refusal
refusal_of TooManyOpen = refusal.TooManyOpen
refusal_of (ListFull taken) = refusal.ListFull taken
refusal_of (BudgetSpent taken) = refusal.BudgetSpent taken
