-- What a floor keeps.
use Rattle.floor.specs.declared.index.Index.{Index}
use Rattle.floor.specs.Indexes.{IsIndexOf}
use Rattle.floor.specs.Positions.{Position, IsSound}

-- The position is sound, and the index is that of the plan.
pub record IsFloor (p : Position) (x : Index) : Type 0 where
  pub sound : IsSound p
  pub index : IsIndexOf p.plan.paths p.plan.meetings x
