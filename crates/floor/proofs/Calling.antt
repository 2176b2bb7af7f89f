-- Calls on a floor that are carried out.
use Rattle.std.proofs.Common.{◌≡◌, ℕ, ◌^◌, ◌<◌, List, [], length, None, Option, sym, subst}
use Rattle.std.proofs.ByRecursion.{All-get_or}
use Rattle.std.proofs.lemmas.Bool.{lt-ltb, cond-true}
use Rattle.files.specs.declared.plan.Stop.{Stop}
use Rattle.files.specs.Bytes.{PathFits}
use Rattle.meetings.specs.declared.meet.First.{First}
use Rattle.meetings.specs.Laws.{MeetingsLaw}
use Rattle.plans.specs.Kept.{OpenedPlan, IsKept}
use Rattle.traffic.specs.Safety.{MovesExactly}
use Rattle.floor.specs.declared.index.Index.{Index}
use Rattle.floor.specs.Calls.{tick_fault}
use Rattle.floor.specs.Floors.{IsFloor}
use Rattle.floor.specs.Indexes.{IsIndexOf}
use Rattle.floor.specs.Positions.{Position, fresh_on, ticked}
use Rattle.floor.proofs.Floors.{all_meet}
use Rattle.floor.proofs.Scenes.{placed_fresh, placed_tick}

-- a tick that names no shuttle beyond the plan as standing
pub tick_good : (ps : List (List Stop)) (standing n : ℕ) → n ≡ length ps → standing < 2 ^ n → None ≡ tick_fault ps standing
tick_good ps standing n e g = sym (cond-true _ _ _ (lt-ltb standing (2 ^ length ps) (subst (λ k. standing < 2 ^ k) e g)))

pub floor_ticked : MovesExactly → (p : Position) (x : Index) (orders : List (Option First)) (standing : ℕ) → IsFloor p x → IsFloor (ticked orders standing p) x
floor_ticked exactly p x orders standing f = record {
  sound = record { kept = f.sound.kept; meet = f.sound.meet; placed = placed_tick exactly p.plan.paths orders standing p.shuttles f.sound.placed };
  index = f.index;
}

pub floor_fresh : (plan : OpenedPlan) (x : Index) → IsKept plan → MeetingsLaw plan.paths → IsIndexOf plan.paths plan.meetings x → IsFloor (fresh_on plan) x
floor_fresh plan x kept law index = record {
  sound = record {
    kept = kept;
    meet = all_meet plan kept law;
    placed = placed_fresh plan.paths (λ s lt. (All-get_or PathFits plan.paths s [] lt kept.limits.stops).0);
  };
  index = index;
}
