-- Slips go into pockets and out of them.
use Rattle.std.proofs.Common.{◌≡◌, ℕ, ◌<◌, get_or, length, Some, None, Option, slice_get, set, refl, sym, ap, ◌∙◌, subst}
use Rattle.std.proofs.lemmas.List.{set-get_or}
use Rattle.std.proofs.lemmas.Option.{get_or_from_slice_get}
use Rattle.dispatch.specs.Pockets.{Pockets, TakesSlip, without_slip}
use Rattle.dispatch.specs.Slips.{SlipNumbers}

-- what lies in a pocket is taken out
pub slip_taken : (ps : Pockets) (p : ℕ) (o : Option SlipNumbers) → slice_get ps p ≡ Some o → TakesSlip o p ps (without_slip ps p)
slip_taken ps p None is = (
  λ slip has. absurd (cc),
  ap (λ (o : Option SlipNumbers). set ps p o) (sym (get_or_from_slice_get ps p None None is)) ∙ set-get_or ps p None,
)
slip_taken ps p (Some slip) is = (is, refl)
